-- One part after another: where the faults of the second and of what follows are.
use Rattle.std.proofs.Common.{◌≡◌, ℕ, ◌+◌, List, ◌∷◌, ◌++◌, length, sym, ◌∙◌, ap, subst, inl, inr, append_assoc, length-append, add_assoc, arith}
use Rattle.std.proofs.lemmas.List.{append_cancel_left}
use Rattle.pls_lines.specs.Plain.{LacksItem, ArePlain}
use Rattle.pls_lines.specs.Text.{text_of}
use Rattle.pls_lines.specs.Fault.{Begins, FaultAt, FirstFault, Then}
use Rattle.pls_lines.specs.Part.{IsPart}
use Rattle.pls_lines.specs.laws.Cuts.{each-append, each_front, one_begins}
use Rattle.pls_lines.specs.laws.Fronts.{text_of-append, further}
use Rattle.pls_lines.specs.laws.Parts.{no_whole, whole_once}

module _ (first second : List (List ℕ) → Type 0) where
  -- two parts in turn are a part
  pub then_part : IsPart first → IsPart second → IsPart (Then first second)
  then_part one two = record {
    plain = λ lines is.
        subst ArePlain (sym is.parts)
        (each-append (LacksItem 10) is.front is.back (one.plain is.front is.is_first)
        (two.plain is.back is.is_second));
    own = λ a b x y p q e.
        let whole : p.front ++ (p.back ++ x) ≡ q.front ++ (q.back ++ y) =
        sym (append_assoc p.front p.back x) ∙ ap (λ lines. lines ++ x) (sym p.parts) ∙ e
        ∙ ap (λ lines. lines ++ y) q.parts ∙ append_assoc q.front q.back y in
        let fronts =
        one.own p.front q.front (p.back ++ x) (q.back ++ y) p.is_first q.is_first whole in
        let rest : p.back ++ x ≡ q.back ++ y =
        append_cancel_left q.front (p.back ++ x) (q.back ++ y)
        (ap (λ front. front ++ (p.back ++ x)) (sym fronts) ∙ whole) in
        let backs = two.own p.back q.back x y p.is_second q.is_second rest in
        p.parts ∙ ap (λ front. front ++ p.back) fronts ∙ ap (λ back. q.front ++ back) backs
        ∙ sym q.parts;
  }

  -- a fault in the first part
  pub fault_of_first : (some : List (List ℕ)) (text : List ℕ) (count : ℕ) → IsPart first
      → second some
      → FaultAt first text count → FirstFault (Then first second) text count
  fault_of_first some text count part is fault =
      let good = fault.good in
      record {
        good = record {
          front = good.front;
          more = good.next ∷ good.more ++ some;
          after = good.after;
          is = record {
            front = good.front ++ good.next ∷ good.more;
            back = some;
            is_first = good.is;
            is_second = is;
            parts = sym (append_assoc good.front (good.next ∷ good.more) some);
          };
          many = good.many;
          stands = good.stands;
        };
        bad = λ b. elim (one_begins b.front b.is.front b.more b.is.back b.is.parts) [
          | inl w ↦ fault.bad (record {
            front = b.front;
            more = w.more;
            after = b.after;
            is = subst first w.longer b.is.is_first;
            many = b.many;
            stands = b.stands;
          })
          | inr w ↦
              no_whole first b.is.front text (text_of w.more ++ b.after) count part fault
              b.is.is_first
              (b.stands ∙ ap (λ lines. text_of lines ++ b.after) w.longer
              ∙ ap (λ lines. lines ++ b.after) (text_of-append b.is.front w.more)
              ∙ append_assoc (text_of b.is.front) (text_of w.more) b.after)
        ];
        none = λ lines t e. no_whole first t.front text (text_of t.back) count part fault t.is_first
            (e ∙ ap text_of t.parts ∙ text_of-append t.front t.back);
      }

  -- lines that begin both parts and reach beyond a whole first one begin the second behind it
  begins_second : (lines : List (List ℕ)) (text rest : List ℕ) (count : ℕ) → IsPart first
      → IsPart second
      → first lines → text ≡ text_of lines ++ rest
      → Begins (Then first second) text (length lines + count) → Begins second rest count
  begins_second lines text rest count one two is stands b =
      let part = then_part one two in
      let plain = each_front (LacksItem 10) b.front b.more (part.plain (b.front ++ b.more) b.is) in
      let w = further lines b.front rest b.after (one.plain lines is) plain
      (omega (arith, b.many)) (sym stands ∙ b.stands) in
      let whole : lines ++ (w.more ++ b.more) ≡ b.is.front ++ b.is.back =
      sym (append_assoc lines w.more b.more) ∙ ap (λ front. front ++ b.more) (sym w.lines)
      ∙ b.is.parts in
      let same = one.own lines b.is.front (w.more ++ b.more) b.is.back is b.is.is_first whole in
      let back : w.more ++ b.more ≡ b.is.back =
      append_cancel_left b.is.front (w.more ++ b.more) b.is.back
      (ap (λ front. front ++ (w.more ++ b.more)) (sym same) ∙ whole) in
      let sum : length b.front ≡ length lines + length w.more =
      ap length w.lines ∙ length-append lines w.more in
      record {
        front = w.more;
        more = b.more;
        after = b.after;
        is = subst second (sym back) b.is.is_second;
        many = omega (arith, b.many);
        stands = w.rest;
      }

  -- the second part stands behind a whole first one, and has a fault
  pub fault_of_second : (lines : List (List ℕ)) (text rest : List ℕ) (count : ℕ) → IsPart first
      → IsPart second
      → first lines → text ≡ text_of lines ++ rest → FirstFault second rest count
      → FirstFault (Then first second) text (length lines + count)
  fault_of_second lines text rest count one two is stands fault =
      let good = fault.good in
      record {
        good = record {
          front = lines ++ good.front;
          more = good.more;
          after = good.after;
          is = record {
            front = lines;
            back = good.front ++ good.more;
            is_first = is;
            is_second = good.is;
            parts = append_assoc lines good.front good.more;
          };
          many = length-append lines good.front ∙ ap (λ n. length lines + n) good.many;
          stands = stands ∙ ap (λ more. text_of lines ++ more) good.stands
              ∙ sym (append_assoc (text_of lines) (text_of good.front) good.after)
              ∙ ap (λ more. more ++ good.after) (sym (text_of-append lines good.front));
        };
        bad = λ b. fault.bad (begins_second lines text rest (count + 1) one two is stands
            (subst (Begins (Then first second) text) (add_assoc (length lines) count 1) b));
        none = λ others t e.
            let whole : text_of lines ++ rest ≡ text_of t.front ++ text_of t.back =
            sym stands ∙ e ∙ ap text_of t.parts ∙ text_of-append t.front t.back in
            fault.none t.back t.is_second
            (whole_once first lines t.front rest (text_of t.back) one is t.is_first whole).1;
      }

  -- a fault in the first part is one of both parts
  pub first_part_fault : (some : List (List ℕ)) (text : List ℕ) (count : ℕ) → IsPart first
      → second some → FaultAt first text count → FaultAt (Then first second) text count
  first_part_fault some text count part is fault =
      let good = fault.good in
      record {
        good = record {
          front = good.front;
          next = good.next;
          more = good.more ++ some;
          after = good.after;
          is = record {
            front = good.front ++ good.next ∷ good.more;
            back = some;
            is_first = good.is;
            is_second = is;
            parts = sym (append_assoc good.front (good.next ∷ good.more) some);
          };
          many = good.many;
          stands = good.stands;
        };
        bad = (fault_of_first some text count part is fault).bad;
      }

  -- and so is one in the second part behind a whole first one
  pub second_part_fault : (lines : List (List ℕ)) (text rest : List ℕ) (count : ℕ) → IsPart first
      → IsPart second → first lines → text ≡ text_of lines ++ rest → FaultAt second rest count
      → FaultAt (Then first second) text (length lines + count)
  second_part_fault lines text rest count one two is stands fault =
      let good = fault.good in
      record {
        good = record {
          front = lines ++ good.front;
          next = good.next;
          more = good.more;
          after = good.after;
          is = record {
            front = lines;
            back = good.front ++ good.next ∷ good.more;
            is_first = is;
            is_second = good.is;
            parts = append_assoc lines good.front (good.next ∷ good.more);
          };
          many = length-append lines good.front ∙ ap (λ n. length lines + n) good.many;
          stands = stands ∙ ap (λ more. text_of lines ++ more) good.stands
              ∙ sym (append_assoc (text_of lines) (text_of good.front) good.after)
              ∙ ap (λ more. more ++ good.after) (sym (text_of-append lines good.front));
        };
        bad = λ b. fault.bad (begins_second lines text rest (count + 1) one two is stands
            (subst (Begins (Then first second) text) (add_assoc (length lines) count 1) b));
      }
