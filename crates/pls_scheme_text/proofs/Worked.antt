-- Texts, and why they are refused, worked out.
use Rattle.std.proofs.Common.{◌≡◌, codes, Some, None, refl}
use Rattle.pls_names.specs.declared.scheme_name.SchemeName.TheVariants.{MinimumSpanningTree, Tree}
use Rattle.pls_expressions.specs.Expression.{And, Bridgeless, Map, Of, Or}
use Rattle.pls_scheme_text.specs.declared.scheme_error.SchemeError.TheVariants.{NotAScheme, TooDeep, TooMany}
use Rattle.pls_scheme_text.specs.inner.Fronts.{expression_in, leaf_front, scheme_refusal_of}

read : expression_in (codes "and(tree,map(or(bridgeless,mst)))")
    ≡ Some (And (Of Tree) (Map (Or Bridgeless (Of MinimumSpanningTree))))
unfolding leaf_front
read = refl

name : scheme_refusal_of (codes "mst") ≡ None
unfolding leaf_front
name = refl

empty : scheme_refusal_of (codes "") ≡ Some NotAScheme
unfolding leaf_front
empty = refl

longer : scheme_refusal_of (codes "trees") ≡ Some NotAScheme
unfolding leaf_front
longer = refl

in_map : scheme_refusal_of (codes "map(map(tree))") ≡ Some NotAScheme
unfolding leaf_front
in_map = refl

outside : scheme_refusal_of (codes "and(tree,bridgeless)") ≡ Some NotAScheme
unfolding leaf_front
outside = refl

eight : scheme_refusal_of (codes "and(and(and(mst,mst),and(mst,mst)),and(and(mst,mst),and(mst,mst)))") ≡ None
unfolding leaf_front
eight = refl

nine : scheme_refusal_of (codes "and(and(and(mst,mst),and(mst,mst)),and(and(mst,mst),and(mst,and(mst,mst))))")
    ≡ Some TooMany
unfolding leaf_front
nine = refl

deep : scheme_refusal_of (codes "and(and(and(and(and(and(and(and(") ≡ Some TooDeep
unfolding leaf_front
deep = refl

deep_behind : scheme_refusal_of (codes "))))((((((((") ≡ Some TooDeep
unfolding leaf_front
deep_behind = refl

flat : scheme_refusal_of (codes "()()()()()()()()") ≡ Some NotAScheme
unfolding leaf_front
flat = refl
