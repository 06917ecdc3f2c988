use Rattle.std.proofs.Common.{◌≡◌, ◌∙◌, ap, arith, length, subst, sym}
use Rattle.std.proofs.lemmas.List.{length-map}
use Rattle.pls_labels.proofs.Few.{proper_at}
use Rattle.pls_rules.specs.declared.rule_set.RuleSet.{RuleSet}
use Rattle.pls_rules.specs.RuleSet.{kinds_of}
use Rattle.pls_rules.specs.HeldTrees.{set_of}
use Rattle.pls_scheme.specs.Judging.{judged_from}
use Rattle.pls_scheme.proofs.LookedAt.{places_for_ports}
use Rattle.pls_compile.specs.FieldTable.{sight_in}
use Rattle.pls_compile.specs.Readable.{IsReadable}
use Rattle.pls_compile.specs.ReadLabels.{numbers_in}
use Rattle.pls_compile.specs.RuleMeaning.{rules_hold}
use Rattle.pls_compile.proofs.TableJudged.{judges, readable, rejects_beside, rejects_own}
use Rattle.pls_compile.proofs.rule_checker.RuleChecker.verdict_at.Goals as goal

pub returns-in_default : goal.returns-in_default
returns-in_default g c =
    rejects_own (set_of c.args.self.now) c.args.net.now c.node-id.ensures.valid
    (g.L.Labels.listed c.args.labels.now) c.requires.each c.args.table.now c.requires.table c.args.i
    c.requires.within c.node-id.result.0 c.node-id.result.1 c.ports-ports.result.now
    c.places-places.result.now c.node-id.ensures.id c.node-id.ensures.state c.ports-ports.ensures
    c.places-places.ensures.places c.in_default.ensures

pub returns-then-not-are_read : goal.returns-then-not-are_read
returns-then-not-are_read g c =
    rejects_beside (set_of c.args.self.now) c.args.net.now c.node-id.ensures.valid
    (g.L.Labels.listed c.args.labels.now) c.requires.each c.args.table.now c.requires.table c.args.i
    c.requires.within c.node-id.result.0 c.node-id.result.1 c.ports-ports.result.now
    c.places-places.result.now c.node-id.ensures.id c.node-id.ensures.state c.ports-ports.ensures
    c.places-places.ensures.places c.in-Some.own.now c.in-Some.ensures c.are_read.result
    c.are_read.ensures c.if-not-are_read.true

pub invariant_of-node : goal.invariant_of-node
invariant_of-node g c =
    let rows = c.args.net.now in
    let labels = g.L.Labels.listed c.args.labels.now in
    let many : length c.args.table.now ≡ length labels =
    ap length c.requires.table
    ∙ length-map labels (numbers_in (kinds_of (set_of c.args.self.now).fields)) in
    record {
      proper = proper_at rows c.node-id.ensures.valid c.args.i c.node-id.result.1
          c.ports-ports.result.now c.node-id.ensures.state c.ports-ports.ensures;
      beside = places_for_ports rows c.node-id.ensures.valid c.args.i c.ports-ports.result.now
          c.ports-ports.ensures c.places-places.result.now c.places-places.ensures.places;
      within = λ p none below.
          let inside = c.places-places.ensures.within p none below in
          omega (arith, many, c.requires.each, inside);
    }

pub run_code-requires-clause-node : goal.run_code-requires-clause-node
run_code-requires-clause-node g c =
    subst (λ (s : RuleSet). IsReadable (length (set_of s).fields)
    (sight_in c.args.table.now c.node-id.result.0 c.node-id.result.1 c.in-Some.own.now
    c.ports-ports.result.now c.places-places.result.now)) (sym c.self.view_is)
    (readable (set_of c.args.self.now) c.args.net.now c.node-id.ensures.valid
    (g.L.Labels.listed c.args.labels.now) c.requires.each c.args.table.now c.requires.table c.args.i
    c.requires.within c.node-id.result.0 c.node-id.result.1 c.ports-ports.result.now
    c.places-places.result.now c.node-id.ensures.id c.node-id.ensures.state c.ports-ports.ensures
    c.places-places.ensures.places c.in-Some.own.now c.in-Some.ensures c.are_read.result
    c.are_read.ensures c.if-not-are_read.false c.node_fits.ensures.id c.node_fits.ensures.mark
    c.node_fits.ensures.num c.node_fits.ensures.weights)

pub returns : goal.returns
returns g c =
    judges (set_of c.args.self.now) c.args.net.now c.node-id.ensures.valid
    (g.L.Labels.listed c.args.labels.now) c.requires.each c.args.table.now c.requires.table c.args.i
    c.requires.within c.node-id.result.0 c.node-id.result.1 c.ports-ports.result.now
    c.places-places.result.now c.node-id.ensures.id c.node-id.ensures.state c.ports-ports.ensures
    c.places-places.ensures.places c.in-Some.own.now c.in-Some.ensures c.are_read.result
    c.are_read.ensures c.if-not-are_read.false c.run_code.result
    (c.run_code.ensures ∙ ap (λ (s : RuleSet). judged_from 3 (rules_hold (set_of s).rules
    (sight_in c.args.table.now c.node-id.result.0 c.node-id.result.1 c.in-Some.own.now
    c.ports-ports.result.now c.places-places.result.now))) c.self.view_is)
