use Rattle.std.proofs.Common.{◌≡◌, ◌∙◌, ◌≤◌, ◌+◌, ◌++◌, take, length, List, ℕ, sym, ap, arith}
use Rattle.std.proofs.Math.Seq.{take-append-add}
use Rattle.std.proofs.lemmas.List.{length-take-le, take-append-le}
use Rattle.pls_streams.proofs.gathered.Gathered.add_front.Goals as goal

-- a front that ends within what was put behind some items
front_put : (xs ys rest : List ℕ) (start count : ℕ) → start ≤ length xs → count ≤ length ys
    → take (start + count) (take start xs ++ (ys ++ rest)) ≡ take start xs ++ take count ys
front_put xs ys rest start count within few =
    ap (λ n. take (n + count) (take start xs ++ (ys ++ rest))) (sym (length-take-le start xs within))
    ∙ take-append-add (take start xs) (ys ++ rest) count
    ∙ ap (λ (front : List ℕ). take start xs ++ front) (take-append-le count ys rest few)

pub returns : goal.returns
returns g c =
    let bytes = c.self.inside.bytes in
    let put : c.copy_from_slice.new.self ≡ c.args.bytes.now = c.copy_from_slice.ensures.after in
    let long : length c.args.bytes.now ≡ g.row.N = c.told-bytes in
    front_put bytes c.copy_from_slice.new.self _ c.self.inside.count c.args.count
    (omega (arith, c.self.invariant, c.self.told))
    (let same = ap (λ (bytes : List ℕ). length bytes) put in omega (arith, c.requires, long, same))
    ∙ ap (λ (front : List ℕ). take c.self.inside.count bytes ++ take c.args.count front) put
    ∙ ap (λ (waited : List ℕ). waited ++ take c.args.count c.args.bytes.now) c.self.view_is
