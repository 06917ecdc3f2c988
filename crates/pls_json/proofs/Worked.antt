-- Reports in JSON at worked examples.
use Rattle.std.proofs.Common.{◌≡◌, [], ◌∷◌, codes, refl}
use Rattle.std.specs.Fmt.{digits}
use Rattle.pls_configuration.specs.declared.verdict.Verdict.TheVariants.{Accept, Reject}
use Rattle.pls_sim.specs.declared.outcome.Outcome.TheVariants.{Decided, Waiting}
use Rattle.pls_report.specs.declared.component_row.ComponentRow.{ComponentRow}
use Rattle.pls_json.specs.Json.{json_text}

abbrev pair : ComponentRow
pair = record { id = 1; nodes = 2; rejecting = 0; waiting = 0 }

abbrev alone : ComponentRow
alone = record { id = 3; nodes = 1; rejecting = 0; waiting = 0 }

in_parts : json_text (pair ∷ alone ∷ [])
    ((1, Decided Accept) ∷ (2, Decided Accept) ∷ (3, Decided Accept) ∷ [])
    ≡ codes "{\"components\":[{\"id\":1,\"nodes\":2,\"rejecting\":0,\"waiting\":0},{\"id\":3,\"nodes\":1,\"rejecting\":0,\"waiting\":0}],\"nodes\":[{\"id\":1,\"verdict\":\"accept\"},{\"id\":2,\"verdict\":\"accept\"},{\"id\":3,\"verdict\":\"accept\"}],\"rejecting\":0,\"waiting\":0}\n"
unfolding digits
in_parts = refl

-- of one component nothing is said
in_one : json_text (pair ∷ []) ((1, Decided (Reject 0 2)) ∷ (2, Waiting (0 ∷ 3 ∷ [])) ∷ [])
    ≡ codes "{\"nodes\":[{\"id\":1,\"leaf\":0,\"rule\":2,\"verdict\":\"reject\"},{\"id\":2,\"ports\":[0,3],\"verdict\":\"waiting\"}],\"rejecting\":1,\"waiting\":1}\n"
unfolding digits
in_one = refl
