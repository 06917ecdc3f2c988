use Rattle.std.proofs.Common.{◌≡◌, ◌∙◌, ℕ, List, false, option_map, inr, ap, refl, subst, sym}
use Rattle.std.proofs.lemmas.Result.{IfOk-weaker}
use Rattle.pls_inputs.specs.Parts.{Input, code_in, labels_in, rows_in}
use Rattle.pls_inputs.specs.Read.{said}
use Rattle.pls_bits.specs.declared.code_name.CodeName.{CodeName}
use Rattle.pls_combine.specs.Expression.{judge_of, longest_of}
use Rattle.pls_configuration.specs.declared.row.NodeRow.{NodeRow}
use Rattle.pls_configuration.specs.declared.status.Status.TheVariants.{Done}
use Rattle.pls_app.specs.declared.command.Command.TheVariants.{With}
use Rattle.pls_app.specs.declared.command.Task.{Task}
use Rattle.pls_app.specs.declared.command.Task.TheVariants.{Verify, Convert, Mark, Simulate, Recheck, Splice, Watch}
use Rattle.pls_app.specs.Answer.{bound_answer, report_answer}
use Rattle.pls_app.specs.Command.{input_parts_of}
use Rattle.pls_app.specs.Meant.{number_code_of, takes_of}
use Rattle.pls_app.specs.Reports.{decided_by}
use Rattle.pls_app.specs.inner.Tasks.{Does, DoesWork, IsNamed, IsRechecked, IsSimulated, RecheckedIn, ShowsIn, working_code, DoesSplice}
use Rattle.pls_app.specs.inner.Watching.{IsWatchInput}
use Rattle.pls_app.proofs.Values.{edits_at, edits_few, edits_fit, edits_small, items_are, labels_are, labels_each, made_of, rows_are, schedule_at, schedule_small, watch_at, watch_small}
use Rattle.pls_app.proofs.Spliced.{spliced_so}
use Rattle.pls_components.specs.Components.{AreComponents}
use Rattle.pls_components.specs.Parts.{bound_of_parts}
use Rattle.pls_app.proofs.OtherTasks.{no_mark, no_recheck}
use Rattle.pls_app.proofs.work.do_task.Goals as goal

pub mark-requires-clause-named : goal.mark-requires-clause-named
mark-requires-clause-named g c =
    subst (λ (task : Task). IsNamed (working_code task (said c.args.input)) g.C.NumCode.code
    g.C.NumCode.takes) c.in-Mark.is c.requires.named

pub simulate-requires-clause-line : goal.simulate-requires-clause-line
simulate-requires-clause-line g c =
    schedule_small _ _ c.args.input c.requires.input.1 c.unwrap-in-Simulate-2.result.items
    (ap (option_map (λ list. list.items)) c.unwrap-in-Simulate-2.ensures)

pub recheck-requires : goal.recheck-requires
recheck-requires g c =
    let is = c.requires.input.1 in
    let list = c.unwrap-in-Recheck-2.result.items in
    let edits = ap (option_map (λ list. list.items)) c.unwrap-in-Recheck-2.ensures in
    let unscheduled : (input_parts_of (With c.args.task c.args.scheme)).schedule ≡ false =
    ap (λ (task : Task). (input_parts_of (With task c.args.scheme)).schedule) c.in-Recheck.is in
    record {
      input = record {
        each = labels_each _ _ c.args.input is c.unwrap-net.result c.unwrap-net.ensures
            c.unwrap-in-Recheck.result c.unwrap-in-Recheck.ensures;
        are = edits_fit _ _ c.args.input is list edits unscheduled;
        few = edits_few _ _ c.args.input is list edits unscheduled;
        line = edits_small _ _ c.args.input is list edits unscheduled;
      };
    }

pub watch-requires-clause-line : goal.watch-requires-clause-line
watch-requires-clause-line g c =
    watch_small _ _ c.args.input c.requires.input.1 c.unwrap-in-Watch-2.result.items
    (ap (option_map (λ list. list.items)) c.unwrap-in-Watch-2.ensures)
    (ap (λ (task : Task). (input_parts_of (With task c.args.scheme)).schedule) c.in-Watch.is)
    (ap (λ (task : Task). (input_parts_of (With task c.args.scheme)).edits) c.in-Watch.is)

pub returns-in-Mark-clause-does : goal.returns-in-Mark-clause-does
returns-in-Mark-clause-does g c =
    let scheme = c.args.scheme in
    let input = said c.args.input in
    let parts = c.in_ok-parts.parts in
    let are : AreComponents (rows_in input) parts =
    made_of input c.unwrap-net.result parts
    (rows_are c.args.input c.unwrap-net.result c.unwrap-net.ensures) c.in_ok-parts.ensures in
    let rows = rows_are c.args.input c.unwrap-net.result c.unwrap-net.ensures in
    IfOk-weaker c.mark.result
    (λ answer. (input : Input) → rows_in input ≡ c.unwrap-net.result
    → Does (With (Mark c.in-Mark.code) scheme) input parts answer)
    (λ answer. DoesWork (With c.args.task scheme) input answer)
    (λ answer does. subst (λ (task : Task). DoesWork (With task scheme) input answer)
    (sym c.in-Mark.is) (record { parts = parts; components = are; does = does input rows }))
    c.mark.ensures.does

pub returns-in-Mark-clause-shows : goal.returns-in-Mark-clause-shows
returns-in-Mark-clause-shows g c =
    let scheme = c.args.scheme in
    let rows = rows_are c.args.input c.unwrap-net.result c.unwrap-net.ensures in
    IfOk-weaker c.mark.result
    (λ answer. answer.status ≡ Done
    → ShowsIn c.in-Mark.code scheme c.unwrap-net.result answer.text)
    (λ answer. (code : CodeName) → c.args.task ≡ Mark code → answer.status ≡ Done
    → ShowsIn code scheme (rows_in (said c.args.input)) answer.text)
    (λ answer shows code is done.
    let tasks : Mark c.in-Mark.code ≡ Mark code = sym c.in-Mark.is ∙ is in
    let codes : c.in-Mark.code ≡ code = cc in
    subst (λ (code : CodeName). ShowsIn code scheme (rows_in (said c.args.input)) answer.text) codes
    (subst (λ (rows : List NodeRow). ShowsIn c.in-Mark.code scheme rows answer.text) (sym rows)
    (shows done))) c.mark.ensures.shows

pub returns-in-Bound-clause-does : goal.returns-in-Bound-clause-does
returns-in-Bound-clause-does g c =
    let scheme = c.args.scheme in
    let input = said c.args.input in
    let parts = c.in_ok-parts.parts in
    let are : AreComponents (rows_in input) parts =
    made_of input c.unwrap-net.result parts
    (rows_are c.args.input c.unwrap-net.result c.unwrap-net.ensures) c.in_ok-parts.ensures in
    let net = c.unwrap-net.result in
    let rows = rows_are c.args.input net c.unwrap-net.ensures in
    let writes = c.requires.named.writes_so
    ∙ ap (λ (task : Task). number_code_of (working_code task input)) c.in-Bound.is in
    IfOk-weaker c.bound.result
    (λ answer. answer ≡ bound_answer (bound_of_parts (longest_of g.C.NumCode.code scheme) net parts))
    (λ answer. DoesWork (With c.args.task scheme) input answer)
    (λ answer same. subst (λ (task : Task). DoesWork (With task scheme) input answer)
    (sym c.in-Bound.is) (record {
      parts = parts;
      components = are;
      does = inr (
        refl,
        same ∙ (λ i. bound_answer (bound_of_parts (longest_of (writes i) scheme) (sym rows i) parts)),
      );
    })) c.bound.ensures.bounded

pub returns-in-Convert-clause-does : goal.returns-in-Convert-clause-does
returns-in-Convert-clause-does g c =
    let scheme = c.args.scheme in
    let input = said c.args.input in
    let parts = c.in_ok-parts.parts in
    let are : AreComponents (rows_in input) parts =
    made_of input c.unwrap-net.result parts
    (rows_are c.args.input c.unwrap-net.result c.unwrap-net.ensures) c.in_ok-parts.ensures in
    let net = c.unwrap-net.result in
    let store = c.unwrap-in-Convert.result in
    let takes = c.requires.named.takes_so
    ∙ ap (λ (task : Task). takes_of (working_code task input)) c.in-Convert.is in
    let rows = rows_are c.args.input net c.unwrap-net.ensures in
    let labels = labels_are _ _ c.args.input c.requires.input.1 net c.unwrap-net.ensures store
    c.unwrap-in-Convert.ensures in
    IfOk-weaker c.convert-in-Convert.result
    (λ answer. (input : Input) → rows_in input ≡ net → labels_in input ≡ store
    → g.C.NumCode.takes ≡ takes_of (code_in input) → (parts : List (List ℕ))
    → Does (With Convert scheme) input parts answer)
    (λ answer. DoesWork (With c.args.task scheme) input answer)
    (λ answer does. subst (λ (task : Task). DoesWork (With task scheme) input answer)
    (sym c.in-Convert.is)
    (record { parts = parts; components = are; does = does input rows labels takes parts }))
    c.convert-in-Convert.ensures.does

pub returns-in-Splice-clause-does : goal.returns-in-Splice-clause-does
returns-in-Splice-clause-does g c =
    let scheme = c.args.scheme in
    let input = said c.args.input in
    let parts = c.in_ok-parts.parts in
    let net = c.unwrap-net.result in
    let rows = rows_are c.args.input net c.unwrap-net.ensures in
    let are : AreComponents (rows_in input) parts =
    made_of input net parts rows c.in_ok-parts.ensures in
    let store = c.unwrap-in-Splice.result in
    let judge = judge_of g.C.NumCode.takes scheme in
    let takes = c.requires.named.takes_so
    ∙ ap (λ (task : Task). takes_of (working_code task input)) c.in-Splice.is in
    let labels = labels_are _ _ c.args.input c.requires.input.1 net c.unwrap-net.ensures store
    c.unwrap-in-Splice.ensures in
    IfOk-weaker c.splice.result
    (DoesSplice judge c.args.input.code net store)
    (λ answer. DoesWork (With c.args.task scheme) input answer)
    (λ answer does. subst (λ (task : Task). DoesWork (With task scheme) input answer)
    (sym c.in-Splice.is) (record {
      parts = parts;
      components = are;
      does = spliced_so judge _ c.args.input.code _ net _ store _ answer
          (λ i. judge_of (takes i) scheme) c.requires.input.1.code (sym rows) (sym labels) does
          parts are;
    })) c.splice.ensures.does

pub returns-in-Verify-clause-does : goal.returns-in-Verify-clause-does
returns-in-Verify-clause-does g c =
    let scheme = c.args.scheme in
    let input = said c.args.input in
    let parts = c.in_ok-parts.parts in
    let are : AreComponents (rows_in input) parts =
    made_of input c.unwrap-net.result parts
    (rows_are c.args.input c.unwrap-net.result c.unwrap-net.ensures) c.in_ok-parts.ensures in
    let form = c.in-Verify.form in
    let net = c.unwrap-net.result in
    let store = c.unwrap.result in
    let judge = judge_of g.C.NumCode.takes scheme in
    let takes = c.requires.named.takes_so
    ∙ ap (λ (task : Task). takes_of (working_code task input)) c.in-Verify.is in
    let rows = rows_are c.args.input net c.unwrap-net.ensures in
    let labels = labels_are _ _ c.args.input c.requires.input.1 net c.unwrap-net.ensures store
    c.unwrap.ensures in
    IfOk-weaker c.verify-in-Verify.result
    (λ answer. answer ≡ report_answer form false net parts (decided_by judge net store))
    (λ answer. DoesWork (With c.args.task scheme) input answer)
    (λ answer same. subst (λ (task : Task). DoesWork (With task scheme) input answer)
    (sym c.in-Verify.is) (record {
      parts = parts;
      components = are;
      does = inr (
        refl,
        same ∙ (λ i. report_answer form false (sym rows i) parts
            (decided_by (judge_of (takes i) scheme) (sym rows i) (sym labels i))),
      );
    })) c.verify-in-Verify.ensures.reports

pub returns-in-Simulate-clause-does : goal.returns-in-Simulate-clause-does
returns-in-Simulate-clause-does g c =
    let scheme = c.args.scheme in
    let input = said c.args.input in
    let parts = c.in_ok-parts.parts in
    let are : AreComponents (rows_in input) parts =
    made_of input c.unwrap-net.result parts
    (rows_are c.args.input c.unwrap-net.result c.unwrap-net.ensures) c.in_ok-parts.ensures in
    let form = c.in-Simulate.form in
    let is = c.requires.input.1 in
    let net = c.unwrap-net.result in
    let store = c.unwrap-in-Simulate.result in
    let list = c.unwrap-in-Simulate-2.result in
    let takes = c.requires.named.takes_so
    ∙ ap (λ (task : Task). takes_of (working_code task input)) c.in-Simulate.is in
    let read : IsSimulated net store c.deref.result.now c.args.input.first_line input = record {
      net = rows_are c.args.input net c.unwrap-net.ensures;
      store = labels_are _ _ c.args.input is net c.unwrap-net.ensures store
          c.unwrap-in-Simulate.ensures;
      list = items_are c.args.input.schedule list (λ list. list.items)
          c.unwrap-in-Simulate-2.ensures ∙ sym c.deref.ensures.value;
      at = schedule_at _ _ c.args.input is list.items
          (ap (option_map (λ list. list.items)) c.unwrap-in-Simulate-2.ensures);
    } in
    IfOk-weaker c.simulate-in-Simulate.result
    (λ answer. (input : Input)
    → IsSimulated net store c.deref.result.now c.args.input.first_line input
    → g.C.NumCode.takes ≡ takes_of (code_in input)
    → Does (With (Simulate form) scheme) input parts answer)
    (λ answer. DoesWork (With c.args.task scheme) input answer)
    (λ answer does. subst (λ (task : Task). DoesWork (With task scheme) input answer)
    (sym c.in-Simulate.is) (record { parts = parts; components = are; does = does input read takes }))
    c.simulate-in-Simulate.ensures.does

pub returns-in-Watch-clause-does : goal.returns-in-Watch-clause-does
returns-in-Watch-clause-does g c =
    let scheme = c.args.scheme in
    let input = said c.args.input in
    let parts = c.in_ok-parts.parts in
    let are : AreComponents (rows_in input) parts =
    made_of input c.unwrap-net.result parts
    (rows_are c.args.input c.unwrap-net.result c.unwrap-net.ensures) c.in_ok-parts.ensures in
    let is = c.requires.input.1 in
    let net = c.unwrap-net.result in
    let store = c.unwrap-in-Watch.result in
    let list = c.unwrap-in-Watch-2.result in
    let takes = c.requires.named.takes_so
    ∙ ap (λ (task : Task). takes_of (working_code task input)) c.in-Watch.is in
    let read : IsWatchInput net store list.items c.args.input.first_line input =
    record {
      net = rows_are c.args.input net c.unwrap-net.ensures;
      store = labels_are _ _ c.args.input is net c.unwrap-net.ensures store
          c.unwrap-in-Watch.ensures;
      list = items_are c.args.input.watch list (λ list. list.items) c.unwrap-in-Watch-2.ensures;
      at = watch_at _ _ c.args.input is list.items
          (ap (option_map (λ list. list.items)) c.unwrap-in-Watch-2.ensures)
          (ap (λ (task : Task). (input_parts_of (With task scheme)).schedule) c.in-Watch.is)
          (ap (λ (task : Task). (input_parts_of (With task scheme)).edits) c.in-Watch.is);
    } in
    IfOk-weaker c.watch-in-Watch.result _ (λ answer. DoesWork (With c.args.task scheme) input answer)
    (λ answer does. subst (λ (task : Task). DoesWork (With task scheme) input answer)
    (sym c.in-Watch.is)
    (record { parts = parts; components = are; does = does input read takes parts }))
    c.watch-in-Watch.ensures.does

pub returns-in-Recheck-clause-does : goal.returns-in-Recheck-clause-does
returns-in-Recheck-clause-does g c =
    let scheme = c.args.scheme in
    let input = said c.args.input in
    let parts = c.in_ok-parts.parts in
    let are : AreComponents (rows_in input) parts =
    made_of input c.unwrap-net.result parts
    (rows_are c.args.input c.unwrap-net.result c.unwrap-net.ensures) c.in_ok-parts.ensures in
    let is = c.requires.input.1 in
    let list = c.unwrap-in-Recheck-2.result in
    let takes = c.requires.named.takes_so
    ∙ ap (λ (task : Task). takes_of (working_code task input)) c.in-Recheck.is in
    let unscheduled : (input_parts_of (With c.args.task c.args.scheme)).schedule ≡ false =
    ap (λ (task : Task). (input_parts_of (With task c.args.scheme)).schedule) c.in-Recheck.is in
    let read : IsRechecked _ input = record {
      net = rows_are c.args.input c.unwrap-net.result c.unwrap-net.ensures;
      store = labels_are _ _ c.args.input is c.unwrap-net.result c.unwrap-net.ensures
          c.unwrap-in-Recheck.result c.unwrap-in-Recheck.ensures;
      list = items_are c.args.input.edits list (λ list. list.items) c.unwrap-in-Recheck-2.ensures;
      at = edits_at _ _ c.args.input is list.items
          (ap (option_map (λ list. list.items)) c.unwrap-in-Recheck-2.ensures) unscheduled;
    } in
    IfOk-weaker c.recheck.result _ (λ answer. DoesWork (With c.args.task scheme) input answer)
    (λ answer does. subst (λ (task : Task). DoesWork (With task scheme) input answer)
    (sym c.in-Recheck.is)
    (record { parts = parts; components = are; does = does input takes read parts }))
    c.recheck.ensures.does

pub returns-in-Recheck-clause-rechecked : goal.returns-in-Recheck-clause-rechecked
returns-in-Recheck-clause-rechecked g c =
    let scheme = c.args.scheme in
    let input = said c.args.input in
    let is = c.requires.input.1 in
    let list = c.unwrap-in-Recheck-2.result in
    let takes = c.requires.named.takes_so
    ∙ ap (λ (task : Task). takes_of (working_code task input)) c.in-Recheck.is in
    let old = g.B.Bench.asked c.args.bench.now in
    let new = g.B.Bench.asked c.recheck.new.bench in
    let unscheduled : (input_parts_of (With c.args.task c.args.scheme)).schedule ≡ false =
    ap (λ (task : Task). (input_parts_of (With task c.args.scheme)).schedule) c.in-Recheck.is in
    IfOk-weaker c.recheck.result _
    (λ answer. c.args.task ≡ Recheck → RecheckedIn scheme input answer.status old new)
    (λ answer found _. found input takes (record {
      net = rows_are c.args.input c.unwrap-net.result c.unwrap-net.ensures;
      store = labels_are _ _ c.args.input is c.unwrap-net.result c.unwrap-net.ensures
          c.unwrap-in-Recheck.result c.unwrap-in-Recheck.ensures;
      list = items_are c.args.input.edits list (λ list. list.items) c.unwrap-in-Recheck-2.ensures;
      at = edits_at _ _ c.args.input is list.items
          (ap (option_map (λ list. list.items)) c.unwrap-in-Recheck-2.ensures) unscheduled;
    })) c.recheck.ensures.rechecked

pub returns-in-Verify-clause-shows : goal.returns-in-Verify-clause-shows
returns-in-Verify-clause-shows g c =
    no_mark c.args.task (Verify c.in-Verify.form) c.in-Verify.is c.args.scheme _ (rows_in (said c.args.input))
    (λ code mark. cc)

pub returns-in-Verify-clause-rechecked : goal.returns-in-Verify-clause-rechecked
returns-in-Verify-clause-rechecked g c =
    no_recheck c.args.task (Verify c.in-Verify.form) c.in-Verify.is c.args.scheme _ (said c.args.input) _ _
    (λ recheck. cc)

pub returns-in-Simulate-clause-shows : goal.returns-in-Simulate-clause-shows
returns-in-Simulate-clause-shows g c =
    no_mark c.args.task (Simulate c.in-Simulate.form) c.in-Simulate.is c.args.scheme _ (rows_in (said c.args.input))
    (λ code mark. cc)

pub returns-in-Simulate-clause-rechecked : goal.returns-in-Simulate-clause-rechecked
returns-in-Simulate-clause-rechecked g c =
    no_recheck c.args.task (Simulate c.in-Simulate.form) c.in-Simulate.is c.args.scheme _ (said c.args.input) _ _
    (λ recheck. cc)

pub returns-in-Watch-clause-shows : goal.returns-in-Watch-clause-shows
returns-in-Watch-clause-shows g c =
    no_mark c.args.task Watch c.in-Watch.is c.args.scheme _ (rows_in (said c.args.input))
    (λ code mark. cc)

pub returns-in-Watch-clause-rechecked : goal.returns-in-Watch-clause-rechecked
returns-in-Watch-clause-rechecked g c =
    no_recheck c.args.task Watch c.in-Watch.is c.args.scheme _ (said c.args.input) _ _
    (λ recheck. cc)

pub returns-in-Convert-clause-shows : goal.returns-in-Convert-clause-shows
returns-in-Convert-clause-shows g c =
    no_mark c.args.task Convert c.in-Convert.is c.args.scheme _ (rows_in (said c.args.input))
    (λ code mark. cc)

pub returns-in-Convert-clause-rechecked : goal.returns-in-Convert-clause-rechecked
returns-in-Convert-clause-rechecked g c =
    no_recheck c.args.task Convert c.in-Convert.is c.args.scheme _ (said c.args.input) _ _
    (λ recheck. cc)

pub returns-in-Splice-clause-shows : goal.returns-in-Splice-clause-shows
returns-in-Splice-clause-shows g c =
    no_mark c.args.task Splice c.in-Splice.is c.args.scheme _ (rows_in (said c.args.input))
    (λ code mark. cc)

pub returns-in-Splice-clause-rechecked : goal.returns-in-Splice-clause-rechecked
returns-in-Splice-clause-rechecked g c =
    no_recheck c.args.task Splice c.in-Splice.is c.args.scheme _ (said c.args.input) _ _
    (λ recheck. cc)
