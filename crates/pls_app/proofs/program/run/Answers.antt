use Rattle.std.proofs.Common.{◌≡◌, ◌∙◌, true, refl, subst, sym, ℕ, List, inl, inr}
use Rattle.pls_words.specs.Words.{words_in}
use Rattle.pls_configuration.specs.declared.status.Status.{Status}
use Rattle.pls_configuration.specs.declared.status.Status.TheVariants.{Done, No}
use Rattle.pls_app.specs.declared.command.Command.{Command}
use Rattle.pls_app.specs.declared.command.Command.TheVariants.{ByRules, With}
use Rattle.pls_app.specs.declared.command.RuleTask.TheVariants.{Judge}
use Rattle.pls_app.specs.declared.command.Task.TheVariants.{Convert, Mark, Recheck, Watch, Splice}
use Rattle.pls_app.specs.Command.{IsCommand, IsUsage, reads_source}
use Rattle.pls_app.specs.Answer.{usage_answer}
use Rattle.pls_app.specs.Run.{Certifies, Converts, EndsAs, IsAnswered, Lacks, Splits}
use Rattle.pls_app.specs.inner.Tasks.{IsWorked}
use Rattle.pls_app.proofs.Answered.{refusal_has_cause, same_command, tells_refusal, unrefused_judged, usage_is_answered}
use Rattle.pls_app.proofs.Asked.{counts_command, counts_fault, counts_none, told_judged}
use Rattle.pls_app.proofs.Commands.{one_command}
use Rattle.pls_app.proofs.Consumed.{lost_nothing}
use Rattle.pls_app.proofs.Conversions.{done_converts}
use Rattle.pls_app.proofs.NamedSets.{done_judges}
use Rattle.pls_app.proofs.Splits.{done_splits}
use Rattle.pls_app.proofs.Told.{tells, tells_command, tells_part, tells_part_of, told_answered, told_done, told_no, told_ends, told_sure, told_usage, offered, took, unread_command, unread_usage, worked_answered}
use Rattle.pls_app.proofs.Proved.{done_proves, judged_notices, no_lacks, no_rejects}
use Rattle.pls_app.proofs.WatchProves.{watch_proves}
use Rattle.pls_app.proofs.program.run.Goals as goal

pub returns-in-Ok-None-clause-text : goal.returns-in-Ok-None-clause-text
returns-in-Ok-None-clause-text g c bytes told answered =
    let words : List (List ℕ) = words_in c.args.words.now in
    let none : IsUsage words = c.in-Ok-None.ensures.none c.in-Ok-None.field-0-is in
    tells words bytes usage_answer _ _ _ _ _ (usage_is_answered words bytes none)
    (rw c.usage_answer.ensures at c.tell.ensures.told) answered

pub returns-in-Ok-None-clause-part : goal.returns-in-Ok-None-clause-part
returns-in-Ok-None-clause-part g c bytes told fault =
    let words : List (List ℕ) = words_in c.args.words.now in
    let none : IsUsage words = c.in-Ok-None.ensures.none c.in-Ok-None.field-0-is in
    tells_part words bytes usage_answer _ _ _ _ _ (usage_is_answered words bytes none) tt
    (rw c.usage_answer.ensures at c.tell.ensures.told) fault

pub returns-in-Ok-None-clause-answers : goal.returns-in-Ok-None-clause-answers
returns-in-Ok-None-clause-answers g c read_all sure =
    let words : List (List ℕ) = words_in c.args.words.now in
    let none : IsUsage words = c.in-Ok-None.ensures.none c.in-Ok-None.field-0-is in
    let told = rw c.usage_answer.ensures at c.tell.ensures.told in
    let ends = rw c.usage_answer.ensures at c.tell.ensures.sure in
    inr (elim sure [
      | inl held ↦ told_answered _ _ _ _ _ _ _ told tt held
      | inr sure ↦
          let each = sure.2 usage_answer (usage_is_answered words sure.0 none) in
          subst IsAnswered (sym (ends each)) tt
    ])

pub returns-in-Ok-None-clause-refused : goal.returns-in-Ok-None-clause-refused
returns-in-Ok-None-clause-refused g c command bytes asks answered =
    let words : List (List ℕ) = words_in c.args.words.now in
    let none : IsUsage words = c.in-Ok-None.ensures.none c.in-Ok-None.field-0-is in
    absurd (none command asks.asked)

pub returns-in-Ok-None-clause-completes : goal.returns-in-Ok-None-clause-completes
returns-in-Ok-None-clause-completes g c command bytes asks unrefused answered =
    let words : List (List ℕ) = words_in c.args.words.now in
    let none : IsUsage words = c.in-Ok-None.ensures.none c.in-Ok-None.field-0-is in
    absurd (none command asks.asked)

pub returns-in-Ok-None-clause-check : goal.returns-in-Ok-None-clause-check
returns-in-Ok-None-clause-check g c scheme command bytes asks checks done =
    let words : List (List ℕ) = words_in c.args.words.now in
    let none : IsUsage words = c.in-Ok-None.ensures.none c.in-Ok-None.field-0-is in
    absurd (none command asks.asked)

pub returns-in-Ok-None-clause-rejects : goal.returns-in-Ok-None-clause-rejects
returns-in-Ok-None-clause-rejects g c scheme command bytes asks checks ends =
    let words : List (List ℕ) = words_in c.args.words.now in
    let none : IsUsage words = c.in-Ok-None.ensures.none c.in-Ok-None.field-0-is in
    absurd (none command asks.asked)

pub returns-in-Ok-None-clause-notices : goal.returns-in-Ok-None-clause-notices
returns-in-Ok-None-clause-notices g c scheme command bytes asks checks judged =
    let words : List (List ℕ) = words_in c.args.words.now in
    let none : IsUsage words = c.in-Ok-None.ensures.none c.in-Ok-None.field-0-is in
    absurd (none command asks.asked)

pub returns-in-Ok-None-clause-mark : goal.returns-in-Ok-None-clause-mark
returns-in-Ok-None-clause-mark g c code scheme bytes asks done =
    let words : List (List ℕ) = words_in c.args.words.now in
    let none : IsUsage words = c.in-Ok-None.ensures.none c.in-Ok-None.field-0-is in
    absurd (none (With (Mark code) scheme) asks.asked)

pub returns-in-Ok-None-clause-mark_no : goal.returns-in-Ok-None-clause-mark_no
returns-in-Ok-None-clause-mark_no g c code scheme bytes asks ends =
    let words : List (List ℕ) = words_in c.args.words.now in
    let none : IsUsage words = c.in-Ok-None.ensures.none c.in-Ok-None.field-0-is in
    absurd (none (With (Mark code) scheme) asks.asked)

pub returns-in-Ok-None-clause-recheck : goal.returns-in-Ok-None-clause-recheck
returns-in-Ok-None-clause-recheck g c scheme bytes asks done =
    let words : List (List ℕ) = words_in c.args.words.now in
    let none : IsUsage words = c.in-Ok-None.ensures.none c.in-Ok-None.field-0-is in
    absurd (none (With Recheck scheme) asks.asked)

pub returns-in-Ok-None-clause-usage : goal.returns-in-Ok-None-clause-usage
returns-in-Ok-None-clause-usage g c ends =
    let words : List (List ℕ) = words_in c.args.words.now in
    let none : IsUsage words = c.in-Ok-None.ensures.none c.in-Ok-None.field-0-is in
    none

pub returns-in-Ok-None-clause-read : goal.returns-in-Ok-None-clause-read
returns-in-Ok-None-clause-read g c =
    let words : List (List ℕ) = words_in c.args.words.now in
    let none : IsUsage words = c.in-Ok-None.ensures.none c.in-Ok-None.field-0-is in
    record {
      read = λ command is reads answered. absurd (none command is);
      no_more = lost_nothing _;
    }

pub returns-in-Ok-None-clause-ends : goal.returns-in-Ok-None-clause-ends
returns-in-Ok-None-clause-ends g c due unread =
    let words : List (List ℕ) = words_in c.args.words.now in
    let none : IsUsage words = c.in-Ok-None.ensures.none c.in-Ok-None.field-0-is in
    let told = rw c.usage_answer.ensures at c.tell.ensures.told in
    subst (λ (due : Status). EndsAs due c.tell.result) (sym (unread_usage words due none unread))
    (told_ends _ _ _ _ _ _ _ told)

pub returns-in-Ok-None-clause-asked : goal.returns-in-Ok-None-clause-asked
returns-in-Ok-None-clause-asked g c =
    let words : List (List ℕ) = words_in c.args.words.now in
    let none : IsUsage words = c.in-Ok-None.ensures.none c.in-Ok-None.field-0-is in
    counts_none words _ _ _ none

pub returns-in-Ok-None-clause-convert : goal.returns-in-Ok-None-clause-convert
returns-in-Ok-None-clause-convert g c scheme bytes asks done =
    let words : List (List ℕ) = words_in c.args.words.now in
    let none : IsUsage words = c.in-Ok-None.ensures.none c.in-Ok-None.field-0-is in
    absurd (none (With Convert scheme) asks.asked)

pub returns-in-Ok-None-clause-watch : goal.returns-in-Ok-None-clause-watch
returns-in-Ok-None-clause-watch g c scheme bytes asks done =
    let words : List (List ℕ) = words_in c.args.words.now in
    let none : IsUsage words = c.in-Ok-None.ensures.none c.in-Ok-None.field-0-is in
    absurd (none (With Watch scheme) asks.asked)

pub returns-in-Ok-None-clause-splice : goal.returns-in-Ok-None-clause-splice
returns-in-Ok-None-clause-splice g c scheme bytes asks done =
    let words : List (List ℕ) = words_in c.args.words.now in
    let none : IsUsage words = c.in-Ok-None.ensures.none c.in-Ok-None.field-0-is in
    absurd (none (With Splice scheme) asks.asked)

pub returns-in-Ok-None-clause-judge : goal.returns-in-Ok-None-clause-judge
returns-in-Ok-None-clause-judge g c form bytes asks done =
    let words : List (List ℕ) = words_in c.args.words.now in
    let none : IsUsage words = c.in-Ok-None.ensures.none c.in-Ok-None.field-0-is in
    absurd (none (ByRules (Judge form)) asks.asked)

pub returns-in-Ok-clause-check : goal.returns-in-Ok-clause-check
returns-in-Ok-clause-check g c scheme other bytes asks checks done =
    let words : List (List ℕ) = words_in c.args.words.now in
    let command : Command = c.in-Ok-Some.command in
    let is : IsCommand words command = rw c.in-Ok-Some.field-0-is at c.in-Ok-Some.ensures.some in
    let answers =
    same_command words command other bytes _ is asks.asked
    (c.in-Ok.ensures.answer bytes (inr asks.told)) in
    done_proves scheme other bytes _ checks answers
    (told_done _ _ _ _ _ _ _ c.tell-in-Ok.ensures.told done)

pub returns-in-Ok-clause-rejects : goal.returns-in-Ok-clause-rejects
returns-in-Ok-clause-rejects g c scheme other bytes asks checks ends =
    let words : List (List ℕ) = words_in c.args.words.now in
    let command : Command = c.in-Ok-Some.command in
    let is : IsCommand words command = rw c.in-Ok-Some.field-0-is at c.in-Ok-Some.ensures.some in
    let answers =
    same_command words command other bytes _ is asks.asked
    (c.in-Ok.ensures.answer bytes (inr asks.told)) in
    no_rejects scheme other bytes _ checks answers
    (told_no _ _ _ _ _ _ _ c.tell-in-Ok.ensures.told ends)

pub returns-in-Ok-clause-notices : goal.returns-in-Ok-clause-notices
returns-in-Ok-clause-notices g c scheme other bytes asks checks judged =
    let words : List (List ℕ) = words_in c.args.words.now in
    let command : Command = c.in-Ok-Some.command in
    let is : IsCommand words command = rw c.in-Ok-Some.field-0-is at c.in-Ok-Some.ensures.some in
    let answers =
    same_command words command other bytes _ is asks.asked
    (c.in-Ok.ensures.answer bytes (inr asks.told)) in
    judged_notices scheme other bytes _ checks answers
    (told_judged _ _ _ _ _ _ _ c.tell-in-Ok.ensures.told judged)

pub returns-in-Ok-clause-mark : goal.returns-in-Ok-clause-mark
returns-in-Ok-clause-mark g c code scheme bytes asks done =
    let words : List (List ℕ) = words_in c.args.words.now in
    let command : Command = c.in-Ok-Some.command in
    let is : IsCommand words command = rw c.in-Ok-Some.field-0-is at c.in-Ok-Some.ensures.some in
    let same = one_command words command (With (Mark code) scheme) is asks.asked in
    took (Certifies code scheme bytes) _ _ _ Done _ _ _ _ tt
    (λ due. c.in-Ok.ensures.certified bytes asks.told code scheme same due)
    c.tell-in-Ok.ensures.told done

pub returns-in-Ok-clause-mark_no : goal.returns-in-Ok-clause-mark_no
returns-in-Ok-clause-mark_no g c code scheme bytes asks ends =
    let words : List (List ℕ) = words_in c.args.words.now in
    let command : Command = c.in-Ok-Some.command in
    let is : IsCommand words command = rw c.in-Ok-Some.field-0-is at c.in-Ok-Some.ensures.some in
    let answers =
    same_command words command (With (Mark code) scheme) bytes _ is asks.asked
    (c.in-Ok.ensures.answer bytes (inr asks.told)) in
    took (Lacks scheme bytes) _ _ _ No _ _ _ _ tt (λ due. no_lacks code scheme bytes _ answers due)
    c.tell-in-Ok.ensures.told ends

pub returns-in-Ok-clause-recheck : goal.returns-in-Ok-clause-recheck
returns-in-Ok-clause-recheck g c scheme bytes asks done =
    let words : List (List ℕ) = words_in c.args.words.now in
    let command : Command = c.in-Ok-Some.command in
    let is : IsCommand words command = rw c.in-Ok-Some.field-0-is at c.in-Ok-Some.ensures.some in
    (c.in-Ok.ensures.rechecked bytes asks.told).held scheme
    (one_command words command (With Recheck scheme) is asks.asked)
    (told_done _ _ _ _ _ _ _ c.tell-in-Ok.ensures.told done)

pub returns-in-Ok-clause-convert : goal.returns-in-Ok-clause-convert
returns-in-Ok-clause-convert g c scheme bytes asks done =
    let words : List (List ℕ) = words_in c.args.words.now in
    let command : Command = c.in-Ok-Some.command in
    let is : IsCommand words command = rw c.in-Ok-Some.field-0-is at c.in-Ok-Some.ensures.some in
    let answers =
    same_command words command (With Convert scheme) bytes _ is asks.asked
    (c.in-Ok.ensures.answer bytes (inr asks.told)) in
    took (Converts scheme bytes) _ _ _ Done _ _ _ _ tt (λ ends. done_converts scheme bytes _ answers ends)
    c.tell-in-Ok.ensures.told done

pub returns-in-Ok-clause-watch : goal.returns-in-Ok-clause-watch
returns-in-Ok-clause-watch g c scheme bytes asks done =
    let words : List (List ℕ) = words_in c.args.words.now in
    let command : Command = c.in-Ok-Some.command in
    let is : IsCommand words command = rw c.in-Ok-Some.field-0-is at c.in-Ok-Some.ensures.some in
    let answers =
    same_command words command (With Watch scheme) bytes _ is asks.asked
    (c.in-Ok.ensures.answer bytes (inr asks.told)) in
    watch_proves scheme bytes _ answers (told_done _ _ _ _ _ _ _ c.tell-in-Ok.ensures.told done)

pub returns-in-Ok-clause-splice : goal.returns-in-Ok-clause-splice
returns-in-Ok-clause-splice g c scheme bytes asks done =
    let words : List (List ℕ) = words_in c.args.words.now in
    let command : Command = c.in-Ok-Some.command in
    let is : IsCommand words command = rw c.in-Ok-Some.field-0-is at c.in-Ok-Some.ensures.some in
    let answers =
    same_command words command (With Splice scheme) bytes _ is asks.asked
    (c.in-Ok.ensures.answer bytes (inr asks.told)) in
    took (Splits scheme bytes) _ _ _ Done _ _ _ _ tt (λ ends. done_splits scheme bytes _ answers ends)
    c.tell-in-Ok.ensures.told done

pub returns-in-Ok-clause-judge : goal.returns-in-Ok-clause-judge
returns-in-Ok-clause-judge g c form bytes asks done =
    let words : List (List ℕ) = words_in c.args.words.now in
    let command : Command = c.in-Ok-Some.command in
    let is : IsCommand words command = rw c.in-Ok-Some.field-0-is at c.in-Ok-Some.ensures.some in
    let answers =
    same_command words command (ByRules (Judge form)) bytes _ is asks.asked
    (c.in-Ok.ensures.answer bytes (inr asks.told)) in
    done_judges form bytes _ answers (told_done _ _ _ _ _ _ _ c.tell-in-Ok.ensures.told done)

pub returns-in-Ok-clause-text : goal.returns-in-Ok-clause-text
returns-in-Ok-clause-text g c bytes told answered =
    let words : List (List ℕ) = words_in c.args.words.now in
    let command : Command = c.in-Ok-Some.command in
    let is : IsCommand words command = rw c.in-Ok-Some.field-0-is at c.in-Ok-Some.ensures.some in
    tells_command words bytes command c.in-Ok.answer _ _ _ _ _ is
    (c.in-Ok.ensures.answer bytes (offered words command _ bytes is told))
    c.tell-in-Ok.ensures.told answered

pub returns-in-Ok-clause-part : goal.returns-in-Ok-clause-part
returns-in-Ok-clause-part g c bytes told fault =
    let words : List (List ℕ) = words_in c.args.words.now in
    let command : Command = c.in-Ok-Some.command in
    let is : IsCommand words command = rw c.in-Ok-Some.field-0-is at c.in-Ok-Some.ensures.some in
    tells_part_of words bytes command c.in-Ok.answer _ _ _ _ _ is
    (c.in-Ok.ensures.answer bytes (offered words command _ bytes is told))
    (worked_answered _ c.in-Ok.ensures.worked) c.tell-in-Ok.ensures.told fault

pub returns-in-Ok-clause-refused : goal.returns-in-Ok-clause-refused
returns-in-Ok-clause-refused g c other bytes asks answered =
    let words : List (List ℕ) = words_in c.args.words.now in
    let command : Command = c.in-Ok-Some.command in
    let is : IsCommand words command = rw c.in-Ok-Some.field-0-is at c.in-Ok-Some.ensures.some in
    let told = tells_command words bytes command c.in-Ok.answer _ _ _ _ _ is
    (c.in-Ok.ensures.answer bytes (inr asks.told)) c.tell-in-Ok.ensures.told answered in
    record {
      told = λ error refused. tells_refusal words other bytes error _ _ _ asks.asked refused told;
      caused = λ refusal. refusal_has_cause words other bytes _ _ _ asks.asked told refusal;
    }

pub returns-in-Ok-clause-completes : goal.returns-in-Ok-clause-completes
returns-in-Ok-clause-completes g c other bytes asks unrefused answered =
    let words : List (List ℕ) = words_in c.args.words.now in
    let command : Command = c.in-Ok-Some.command in
    let is : IsCommand words command = rw c.in-Ok-Some.field-0-is at c.in-Ok-Some.ensures.some in
    let told = tells_command words bytes command c.in-Ok.answer _ _ _ _ _ is
    (c.in-Ok.ensures.answer bytes (inr asks.told)) c.tell-in-Ok.ensures.told answered in
    unrefused_judged words other bytes _ _ _ asks.asked unrefused told

pub returns-in-Ok-clause-usage : goal.returns-in-Ok-clause-usage
returns-in-Ok-clause-usage g c ends =
    let due = told_usage _ _ _ _ _ _ _ c.tell-in-Ok.ensures.told ends in
    absurd (subst IsWorked due c.in-Ok.ensures.worked)

pub returns-in-Ok-clause-answers : goal.returns-in-Ok-clause-answers
returns-in-Ok-clause-answers g c read_all sure =
    let words : List (List ℕ) = words_in c.args.words.now in
    let command : Command = c.in-Ok-Some.command in
    let is : IsCommand words command = rw c.in-Ok-Some.field-0-is at c.in-Ok-Some.ensures.some in
    let due = worked_answered _ c.in-Ok.ensures.worked in
    inr (elim sure [
      | inl held ↦ told_answered _ _ _ _ _ _ _ c.tell-in-Ok.ensures.told due held
      | inr sure ↦
          let ends = told_sure words sure.0 c.in-Ok.answer _ (g.K.Sink.IsSureOf c.args.sink.now)
          command is (c.in-Ok.ensures.answer sure.0 (offered words command _ sure.0 is sure.1)) sure.2
          c.tell-in-Ok.ensures.sure in
          subst IsAnswered (sym ends) due
    ])

pub returns-in-Ok-clause-read : goal.returns-in-Ok-clause-read
returns-in-Ok-clause-read g c =
    let words : List (List ℕ) = words_in c.args.words.now in
    let command : Command = c.in-Ok-Some.command in
    let is : IsCommand words command = rw c.in-Ok-Some.field-0-is at c.in-Ok-Some.ensures.some in
    record {
      read = λ other asked wants answered.
          c.in-Ok.ensures.read (subst (λ (command : Command). reads_source command ≡ true)
          (one_command words other command asked is) wants);
      no_more = c.answer_from.ensures.lost;
    }

pub returns-in-Ok-clause-ends : goal.returns-in-Ok-clause-ends
returns-in-Ok-clause-ends g c due unread =
    let words : List (List ℕ) = words_in c.args.words.now in
    let command : Command = c.in-Ok-Some.command in
    let is : IsCommand words command = rw c.in-Ok-Some.field-0-is at c.in-Ok-Some.ensures.some in
    let both = unread_command words due command is unread in
    subst (λ (due : Status). EndsAs due c.tell-in-Ok.result)
    (c.in-Ok.ensures.done both.0 ∙ sym both.1)
    (told_ends _ _ _ _ _ _ _ c.tell-in-Ok.ensures.told)

pub returns-in-Ok-clause-unread : goal.returns-in-Ok-clause-unread
returns-in-Ok-clause-unread g c due unread =
    let words : List (List ℕ) = words_in c.args.words.now in
    let command : Command = c.in-Ok-Some.command in
    let is : IsCommand words command = rw c.in-Ok-Some.field-0-is at c.in-Ok-Some.ensures.some in
    c.answer_from.ensures.unread (unread_command words due command is unread).0

pub returns-in-Ok-clause-asked : goal.returns-in-Ok-clause-asked
returns-in-Ok-clause-asked g c =
    let words : List (List ℕ) = words_in c.args.words.now in
    let command : Command = c.in-Ok-Some.command in
    let is : IsCommand words command = rw c.in-Ok-Some.field-0-is at c.in-Ok-Some.ensures.some in
    counts_command words _ command is c.in-Ok.answer.status _ _ _
    (told_judged _ _ _ _ _ _ _ c.tell-in-Ok.ensures.told) c.in-Ok.ensures.rechecked
    c.answer_from.ensures.unasked

pub returns-in-Err-answer_from-clause-asked : goal.returns-in-Err-answer_from-clause-asked
returns-in-Err-answer_from-clause-asked g c =
    let words : List (List ℕ) = words_in c.args.words.now in
    let command : Command = c.in-Ok-Some.command in
    let is : IsCommand words command = rw c.in-Ok-Some.field-0-is at c.in-Ok-Some.ensures.some in
    counts_fault words _ command is c.in-Err-answer_from.status _ _ _ _
    c.in-Err-answer_from.ensures.cause c.answer_from.ensures.unasked
