-- What was built of the texts that were scanned: the input that they say, or its refusal.
use Rattle.std.proofs.Common.{◌≡◌, ◌≢◌, ◌∙◌, ℕ, ◌≤◌, Bool, true, List, [], ◌∷◌, length, Option, Some, None, option_map, option_and_then, inr, ap, subst, refl, sym}
use Rattle.std.specs.Option.{unwrap_or}
use Rattle.pls_streams.specs.declared.text_error.TextError.{TextError}
use Rattle.pls_streams.specs.declared.text_error.TextError.TheVariants.{NoMemory}
use Rattle.pls_configuration.specs.declared.row.NodeRow.{NodeRow}
use Rattle.pls_configuration.specs.declared.limits.TheConstants.{MAX_BITS, MAX_INPUT}
use Rattle.pls_configuration.specs.Configuration.{first_of, ids_of}
use Rattle.pls_bits.specs.declared.code_name.CodeName.{CodeName}
use Rattle.pls_labelfile.specs.LabelsScan.{total_bits}
use Rattle.pls_labelfile.specs.Misfit.{misfit}
use Rattle.pls_labelfile.specs.Refusal.{misfit_error}
use Rattle.pls_rules_part.specs.RulesText.{rules_refusal}
use Rattle.pls_inputs.specs.declared.parts.Parts.{Parts}
use Rattle.pls_inputs.specs.declared.texts.Texts.{Texts}
use Rattle.pls_inputs.specs.declared.input.Input.{Input as Read}
use Rattle.pls_inputs.specs.Parts.{Input, code_in, named_in, net_labelling, rows_in}
use Rattle.pls_inputs.specs.Order.{IsInput, IsNoInput, labels_heading, rules_heading, limits, refusals, senses}
use Rattle.pls_inputs.specs.inner.Scanned.{IsScanned, limits_told}
use Rattle.pls_inputs.specs.Read.{AreEach, IsFirstLine, IsRead, said}
use Rattle.pls_inputs.specs.inner.Built.{AreBuilt, AreListed, AreEditsIfAny, AreRefused, AreUnlisted, AreUnmade, IsBuilt, IsNoSet, IsSetIfAny, IsUnbuilt, IsUnwatched, IsWatchIfAny, code_of, first_line_of}
use Rattle.pls_inputs.proofs.WithinLimits.{AreFew, few_in, few_label_bits, first_behind, first_in, limits_same}
use Rattle.pls_inputs.proofs.SameParts.{code_same, each_label, edits_same, events_same, labels_same, line_of, network_same, no_labels, rules_same, watch_same}
use Rattle.pls_inputs.proofs.Senses.{edits_unmade, events_unlisted, labels_refused, labels_sense, rows_refused, rows_sense, rules_refused, rules_sense, set_sense, watch_unlisted}

module _ (parts : Parts) (bytes : List ℕ) (texts : Texts) (scanned : IsScanned parts bytes texts)
    (short : length bytes ≤ MAX_INPUT) where
  -- the first refusal of what was scanned refuses the bytes
  refuses : (error : TextError) → first_of (refusals scanned.input) ≡ Some error
      → IsNoInput parts bytes error
  refuses error first =
      inr (
        short,
        inr (record {
          input = scanned.input;
          says = record { has = scanned.has; is = scanned.is };
          first = first;
        }),
      )

  -- what is refused by a limit
  pub by_limit : (error : TextError) → first_of (limits_told texts) ≡ Some error
      → IsNoInput parts bytes error
  by_limit error first =
      refuses error (first_in (limits scanned.input) (senses scanned.input) error
      (ap first_of (sym (limits_same parts bytes texts scanned)) ∙ first))

  module _ (none : first_of (limits_told texts) ≡ None) where
    within : first_of (limits scanned.input) ≡ None
    within = ap first_of (sym (limits_same parts bytes texts scanned)) ∙ none

    few : AreFew scanned.input
    few = few_in scanned.input within

    few_bits : total_bits (named_in scanned.input) ≤ MAX_BITS
    few_bits = few_label_bits scanned.input few

    -- within the limits the first refusal is the first that makes no sense
    behind : (found : Option TextError) → first_of (senses scanned.input) ≡ found
        → first_of (refusals scanned.input) ≡ found
    behind found first =
        first_behind (limits scanned.input) (senses scanned.input) within ∙ first

    -- what is refused for its rows
    pub by_rows : (error : TextError) → error ≢ NoMemory → IsUnbuilt texts.network error
        → IsNoInput parts bytes error
    by_rows error some refused =
        let rows = rows_refused texts.network scanned.input.network error scanned.network
        few.nodes few.ports some refused in
        refuses error (behind (Some error) (rw rows refl))

    -- few events, few edits and a watch with few lines are refused for want of memory alone
    pub by_events : (error : TextError) → AreUnlisted texts.schedule error → error ≡ NoMemory
    by_events error unlisted =
        events_unlisted _ texts.schedule scanned.input.schedule error few.events scanned.schedule
        unlisted

    pub by_edits : (error : TextError) → AreUnmade texts.edits error → error ≡ NoMemory
    by_edits error unmade =
        edits_unmade _ texts.edits scanned.input.edits error
        (record { few_lines = few.lines; few_closing = few.rounds }) scanned.edits unmade

    pub by_watch : (error : TextError) → IsUnwatched texts.watch error → error ≡ NoMemory
    by_watch error unwatched =
        watch_unlisted _ texts.watch scanned.input.watch error
        (record { few_lines = few.watch_lines; few_closing = few.looks }) scanned.watch unwatched

    module _ (net : Option (List NodeRow)) (built : IsBuilt texts.network net) where
      same_net : net ≡ scanned.input.network
      same_net = network_same texts.network net scanned.input.network scanned.network built

      senses_of : (found : Option TextError)
          → option_map (misfit_error (labels_heading scanned.input))
          (option_and_then (λ said. misfit (ids_of (rows_in scanned.input)) said.labels)
          scanned.input.labels)
          ≡ found → first_of (senses scanned.input)
          ≡ first_of (found ∷ option_and_then (rules_refusal (rules_heading scanned.input))
          scanned.input.rules ∷ [])
      senses_of found fits =
          rw (rows_sense texts.network net scanned.input.network scanned.network built, fits) refl

      -- what is refused for its labels
      pub by_labels : (error : TextError) → error ≢ NoMemory
          → AreRefused texts.labels net error → IsNoInput parts bytes error
      by_labels error some refused =
          refuses error (behind (Some error) (senses_of (Some error)
          (labels_refused (labels_heading scanned.input) texts.labels net scanned.input.network
          scanned.input.labels error same_net few_bits scanned.labels some refused)))

      module _ (with_network : parts.labels ≡ true → parts.network ≡ true) where
        -- labels stand behind a network alone
        alone : net ≡ None → scanned.input.labels ≡ None
        alone none =
            no_labels parts.labels parts.network parts.delta scanned.input.labels
            scanned.input.network with_network scanned.has.labels scanned.has.network
            (sym same_net ∙ none)

        -- labels that were built fit
        labels_fit : (store : Option (List (List Bool))) → AreBuilt texts.labels net store
            → option_map (misfit_error (labels_heading scanned.input))
            (option_and_then (λ said. misfit (ids_of (rows_in scanned.input)) said.labels)
            scanned.input.labels) ≡ None
        labels_fit store labels =
            labels_sense (labels_heading scanned.input) texts.labels net scanned.input.network
            store scanned.input.labels alone same_net few_bits scanned.labels labels

        -- what is refused for its rules
        pub by_rules : (store : Option (List (List Bool))) → AreBuilt texts.labels net store
            → (error : TextError) → error ≢ NoMemory → IsNoSet texts.rules error
            → IsNoInput parts bytes error
        by_rules store labels error some refused =
            refuses error (behind (Some error) (senses_of None (labels_fit store labels)
            ∙ ap (λ (found : Option TextError). first_of (None ∷ found ∷ []))
            (rules_refused (rules_heading scanned.input) texts.rules scanned.input.rules error
            scanned.rules some refused)))

        module _ (read : Read) (is : read.network ≡ net)
            (labels : AreBuilt texts.labels net read.labels)
            (code : read.code ≡ code_of texts.labels)
            (listed : AreListed texts.schedule (option_map (λ list. list.items) read.schedule))
            (made : AreEditsIfAny texts.edits (option_map (λ list. list.items) read.edits))
            (watched : IsWatchIfAny texts.watch (option_map (λ list. list.items) read.watch))
            (set : IsSetIfAny texts.rules read.rules) where
          -- its labels are those that were scanned
          same_labels : (said read).labels ≡ scanned.input.labels
          same_labels =
              ap (λ (net : Option (List NodeRow)). option_map
              (net_labelling read.code (unwrap_or net [])) read.labels) is
              ∙ ap (λ (code : CodeName). option_map (net_labelling code (unwrap_or net []))
              read.labels) code
              ∙ labels_same (labels_heading scanned.input) texts.labels net read.labels
              scanned.input.labels alone scanned.labels labels

          -- it says what was scanned
          same_input : said read ≡ scanned.input
          same_input =
              let input : Input = scanned.input in
              let of_network : read.network ≡ input.network = is ∙ same_net in
              let of_schedule : (said read).schedule ≡ input.schedule =
              events_same _ texts.schedule _ input.schedule scanned.schedule listed in
              let of_edits : (said read).edits ≡ input.edits =
              edits_same _ texts.edits _ input.edits scanned.edits made in
              let of_watch : (said read).watch ≡ input.watch =
              watch_same _ texts.watch _ input.watch scanned.watch watched in
              let of_rules : (said read).rules ≡ input.rules =
              rules_same _ texts.rules read.rules input.rules scanned.rules set in
              λ i. record {
                network = of_network i;
                labels = same_labels i;
                schedule = of_schedule i;
                edits = of_edits i;
                watch = of_watch i;
                rules = of_rules i;
              }

          is_input : IsInput parts bytes (said read)
          is_input =
              let input : Input = scanned.input in
              let accepted : first_of (refusals input) ≡ None =
              behind None (senses_of None (labels_fit read.labels labels)
              ∙ ap (λ (found : Option TextError). first_of (None ∷ found ∷ []))
              (rules_sense (rules_heading input) texts.rules read.rules input.rules scanned.rules
              set)) in
              subst (IsInput parts bytes) (sym same_input) (record {
                short = short;
                says = record { has = scanned.has; is = scanned.is };
                accepted = accepted;
              })

          -- under the code that was read
          same_code : read.code ≡ code_in (said read)
          same_code =
              rw (code, is)
              (code_same (labels_heading scanned.input) texts.labels net read.labels
              scanned.input.labels alone scanned.labels labels)

          -- with its first line in its place
          same_line : read.first_line ≡ first_line_of texts.schedule texts.edits texts.watch
              → IsFirstLine (said read).schedule (said read).edits (said read).watch (said read)
              read.first_line
          same_line first =
              let input : Input = scanned.input in
              subst (λ (input : Input). IsFirstLine input.schedule input.edits input.watch input
              read.first_line) (sym same_input)
              (subst (IsFirstLine input.schedule input.edits input.watch input) (sym first)
              (line_of input texts.schedule texts.edits texts.watch input.schedule input.edits
              input.watch scanned.schedule scanned.edits scanned.watch))

          -- what was built is an input
          pub is_read : read.first_line ≡ first_line_of texts.schedule texts.edits texts.watch
              → IsRead parts bytes read
          is_read first = record {
            is = is_input;
            line = same_line first;
            each = subst (λ (net : Option (List NodeRow)). AreEach net read.labels) (sym is)
                (each_label _ texts.labels net read.labels scanned.input.labels scanned.labels
                labels);
            code = same_code;
            rules = set_sense _ texts.rules read.rules scanned.input.rules scanned.rules set;
          }
