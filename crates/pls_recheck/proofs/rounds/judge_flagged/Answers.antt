use Rattle.std.proofs.Common.{◌≡◌, ◌∙◌, ℕ, ◌<◌, Bool, true, false, List, Some, Vec, Global, length, set, slice_get, sym, ap, subst, arith}
use Rattle.std.proofs.lemmas.List.{length-set}
use Rattle.pls_configuration.specs.declared.verdict.Verdict.{Verdict}
use Rattle.pls_configuration.specs.Configuration.{ids_of}
use Rattle.pls_recheck.specs.inner.Flags.{AreCurrent, marked, set_among}
use Rattle.pls_recheck.proofs.Cleared.{all_set, cleared_more, cleared_same, current_more, few_set, flag_was, judged_same, length-cleared, many_ids, marked_cleared, none_left, not_all_set, on_err, rise_more, set_among_more, set_among_same}
use Rattle.pls_recheck.proofs.rounds.judge_flagged.Goals.{then-index+in_ok-found, else-index}
use Rattle.pls_recheck.proofs.rounds.judge_flagged.Goals as goal

pub returns-in_err-found-clause-refused : goal.returns-in_err-found-clause-refused
returns-in_err-found-clause-refused g c =
    let flags = c.args.flags.now.items in
    let ids = ids_of c.args.net.now in
    let i = c.loop-i.i in
    let within : i < length flags = omega (arith, c.loop-i-test.true, c.len-i-end.ensures.len, c.requires.a_flag) in
    let at = flag_was i flags c.loop-i.flags.items c.index.result.now c.loop-i.invariant.flags
    within c.index.ensures in
    let is_set : slice_get flags i ≡ Some true = at ∙ ap (λ (b : Bool). Some b) c.if-index.true in
    let few = not_all_set ids i flags (many_ids c.args.net.now flags c.requires.a_flag) is_set in
    let left = ap (marked ids) c.loop-i.invariant.flags ∙ marked_cleared ids i flags in
    on_err c.from_residual.result _ (record {
      checked = set_among i flags;
      not_all = few;
      left_is = left;
      rise = rise_more c.loop-i.checked (set_among i flags) c.loop-i.invariant.checked
          c.loop-i.invariant.spent c.loop-i.invariant.steps c.in_err-found.ensures.early;
    })

pub overflow_add-checked : goal.overflow_add-checked
overflow_add-checked g c =
    omega (
      arith,
      c.loop-i.invariant.checked,
      few_set c.loop-i.i c.args.flags.now.items,
      c.loop-i-test.true,
      c.len-i-end.ensures.len,
      c.len-i-end.ensures.valid.limits.few_nodes,
    )

pub loop-i-preserved : goal.loop-i-preserved
loop-i-preserved g c =
    let flags = c.args.flags.now.items in
    let i = c.loop-i.i in
    let judge = g.A.Asks.judge c.args.asks.now c.args.counter.now in
    let within : i < length flags = omega (arith, c.loop-i-test.true, c.len-i-end.ensures.len, c.requires.a_flag) in
    let at = flag_was i flags c.loop-i.flags.items c.index.result.now c.loop-i.invariant.flags
    within c.index.ensures in
    elim c.if-index.branch [
      | then-index+in_ok-found w ↦
          let is_set : slice_get flags i ≡ Some true = at ∙ ap (λ (b : Bool). Some b) w.if-index.true in
          let flags_now : c.if-index.flags.items ≡ set c.loop-i.flags.items i false =
          ap (λ (v : Vec Bool Global). v.items) w.flags-is ∙ w.keep_answer.ensures.flag in
          let kept_now : c.if-index.kept.items ≡ set c.loop-i.kept.items i w.in_ok-found.found =
          ap (λ (v : Vec (ℕ × Verdict) Global). v.items) w.kept-is ∙ w.keep_answer.ensures.verdict in
          record {
            flags = flags_now ∙ ap (λ (all : List Bool). set all i false) c.loop-i.invariant.flags
                ∙ cleared_more i flags within;
            many = ap length kept_now ∙ length-set c.loop-i.kept.items i w.in_ok-found.found
                ∙ c.loop-i.invariant.many;
            current =
                subst (λ (all : List Bool). AreCurrent judge c.args.net.now c.args.labels.now all
                c.if-index.kept.items) (sym flags_now)
                (subst (λ (kept : List (ℕ × Verdict)). AreCurrent judge c.args.net.now
                c.args.labels.now (set c.loop-i.flags.items i false) kept) (sym kept_now)
                (current_more judge c.args.net.now c.args.labels.now c.loop-i.flags.items
                c.loop-i.kept.items c.loop-i.invariant.current i w.in_ok-found.found
                (omega (arith, c.loop-i-test.true, c.len-i-end.ensures.len, c.loop-i.invariant.many))
                (λ view shown. judged_same (g.A.Asks.judge c.args.asks.now c.loop-i.counter) judge
                c.loop-i.invariant.judge w.in_ok-found.found view
                (w.in_ok-found.ensures.judged view shown))));
            judge = ap (g.A.Asks.judge c.args.asks.now) w.counter-is ∙ w.in_ok-found.ensures.judge
                ∙ c.loop-i.invariant.judge;
            over = ap (g.A.Asks.over c.args.asks.now) w.counter-is ∙ w.in_ok-found.ensures.over ∙ c.loop-i.invariant.over;
            checked = omega (
              arith,
              w.checked-is,
              c.loop-i.invariant.checked,
              set_among_more i flags is_set,
            );
            spent = omega (
              arith,
              ap (g.A.Asks.spent c.args.asks.now) w.counter-is,
              w.in_ok-found.ensures.spent,
              c.loop-i.invariant.spent,
              w.checked-is,
            );
            steps = omega (
              arith,
              w.steps-is,
              w.in_ok-found.ensures.steps,
              c.loop-i.invariant.steps,
              w.checked-is,
            );
          }
      | else-index w ↦
          let unset : slice_get flags i ≡ Some false = at ∙ ap (λ (b : Bool). Some b) w.if-index.false in
          let flags_now : c.if-index.flags.items ≡ c.loop-i.flags.items =
          ap (λ (v : Vec Bool Global). v.items) w.flags-is in
          let kept_now : c.if-index.kept.items ≡ c.loop-i.kept.items =
          ap (λ (v : Vec (ℕ × Verdict) Global). v.items) w.kept-is in
          record {
            flags = flags_now ∙ c.loop-i.invariant.flags ∙ cleared_same i flags unset;
            many = ap length kept_now ∙ c.loop-i.invariant.many;
            current =
                subst (λ (all : List Bool). AreCurrent judge c.args.net.now c.args.labels.now all
                c.if-index.kept.items) (sym flags_now)
                (subst (λ (kept : List (ℕ × Verdict)). AreCurrent judge c.args.net.now
                c.args.labels.now c.loop-i.flags.items kept) (sym kept_now)
                c.loop-i.invariant.current);
            judge = ap (g.A.Asks.judge c.args.asks.now) w.counter-is ∙ c.loop-i.invariant.judge;
            over = ap (g.A.Asks.over c.args.asks.now) w.counter-is ∙ c.loop-i.invariant.over;
            checked = omega (
              arith,
              w.checked-is,
              c.loop-i.invariant.checked,
              set_among_same i flags unset,
            );
            spent = omega (
              arith,
              ap (g.A.Asks.spent c.args.asks.now) w.counter-is,
              c.loop-i.invariant.spent,
              w.checked-is,
            );
            steps = omega (arith, w.steps-is, c.loop-i.invariant.steps, w.checked-is);
          }
    ]

pub returns-clause-number : goal.returns-clause-number
returns-clause-number g c =
    c.loop-i.invariant.checked
    ∙ all_set (ids_of c.args.net.now) c.loop-i.i c.args.flags.now.items
    (many_ids c.args.net.now c.args.flags.now.items c.requires.a_flag)
    (omega (arith, c.loop-i-test.false, c.len-i-end.ensures.len, c.requires.a_flag))

pub returns-clause-none : goal.returns-clause-none
returns-clause-none g c =
    ap (marked (ids_of c.args.net.now)) c.loop-i.invariant.flags
    ∙ none_left (ids_of c.args.net.now) c.loop-i.i c.args.flags.now.items
    (many_ids c.args.net.now c.args.flags.now.items c.requires.a_flag)
    (omega (arith, c.loop-i-test.false, c.len-i-end.ensures.len, c.requires.a_flag))

pub returns-in_err-found-clause-a_flag : goal.returns-in_err-found-clause-a_flag
returns-in_err-found-clause-a_flag g c =
    ap length c.loop-i.invariant.flags ∙ length-cleared c.loop-i.i c.args.flags.now.items
    ∙ c.requires.a_flag

pub returns-clause-a_flag : goal.returns-clause-a_flag
returns-clause-a_flag g c =
    ap length c.loop-i.invariant.flags ∙ length-cleared c.loop-i.i c.args.flags.now.items
    ∙ c.requires.a_flag

pub keep_answer-requires-clause-flag : goal.keep_answer-requires-clause-flag
keep_answer-requires-clause-flag g c =
    let many = ap length c.loop-i.invariant.flags in
    let same = length-cleared c.loop-i.i c.args.flags.now.items in
    omega (arith, many, same, c.loop-i-test.true, c.len-i-end.ensures.len, c.requires.a_flag)
