use Rattle.std.proofs.Common.{◌∙◌, ℕ, ◌<◌, List, [], ◌∷◌, ◌++◌, take, get_or, length, sym, ap, arith}
use Rattle.std.proofs.lemmas.List.{map-append, take_more}
use Rattle.std.proofs.lemmas.Option.{slice_get-get_or}
use Rattle.pls_report.specs.declared.component_row.ComponentRow.{ComponentRow}
use Rattle.pls_app.specs.ComponentRows.{component_row, component_rows}
use Rattle.pls_app.proofs.component_rows.component_rows.Goals as goal

pub loop-k-preserved : goal.loop-k-preserved
loop-k-preserved c =
    let net = c.args.net.now in
    let parts = c.args.parts.now in
    let outcomes = c.args.outcomes.now in
    let k = c.loop-k.k in
    let within : k < length parts = omega (arith, c.loop-k-test.true, c.len-k-end.ensures) in
    let places : List ℕ = get_or parts k [] in
    let row = c.component_row.ensures places (slice_get-get_or parts k [] within) in
    c.in_ok-push.ensures.items
    ∙ ap (λ (rows : List ComponentRow). rows ++ c.component_row.result ∷ []) c.loop-k.invariant
    ∙ ap (λ (row : ComponentRow). component_rows net (take k parts) outcomes ++ row ∷ []) row
    ∙ sym (map-append (component_row net outcomes) (take k parts) (places ∷ []))
    ∙ ap (λ (parts : List (List ℕ)). component_rows net parts outcomes)
    (sym (take_more parts k [] within))
