-- Labels of expressions that are written in another number code are judged alike.
use Rattle.std.proofs.Common.{◌≡◌, ◌∙◌, ℕ, ◌≤◌, ◌++◌, ◌&&◌, nat_le, Bool, true, false, List, [], ◌∷◌, drop, length, map, Option, Some, None, option_map, All, is_some, not, if◌then◌else◌, length-append, le-leb, refl, sym, ap, ap₂, arith}
use Rattle.std.specs.Prelude.{unwrap_or}
use Rattle.std.specs.List.{list_all}
use Rattle.std.proofs.lemmas.Option.{same_Some}
use Rattle.std.proofs.lemmas.List.Elements.{All-head, All-map, All-tail}
use Rattle.std.proofs.lemmas.List.Folds.{list_all-map}
use Rattle.std.proofs.lemmas.List.Sums.{AllPass-from_list_all, list_all-from_AllPass}
use Rattle.pls_bits.specs.declared.num_code.TheConstants.{MAX_CODED}
use Rattle.pls_configuration.specs.declared.verdict.Verdict.{Verdict}
use Rattle.pls_configuration.specs.declared.verdict.Verdict.TheVariants.{Reject}
use Rattle.pls_labels.specs.Seen.{EachFits, Seen, SeenPort, narrow_by, narrow_port}
use Rattle.pls_numbers.specs.Shape.{recoded}
use Rattle.pls_universal.specs.Reading.{map_shape}
use Rattle.pls_universal.specs.Rules.{map_rules}
use Rattle.pls_universal.specs.laws.MapLaws.{map_numbers}
use Rattle.pls_names.specs.laws.NamedLaws.{laws_of}
use Rattle.pls_names.specs.laws.Recoding.{Changes, IsCode, JudgesAlike, changed, verdict_alike}
use Rattle.pls_expressions.specs.Expression.{Expression, And, Bridgeless, Diameter, Map, Of, Or, test_of}
use Rattle.pls_parts.specs.Combined.{else_second, judge_both, judge_one_of, judge_own_tag, judge_tagged, verdict_behind}
use Rattle.pls_parts.specs.Joined.{joined_bits}
use Rattle.pls_parts.specs.Parts.{first_part, has_parts, is_tagged, parts_of, second_part, tag_of}
use Rattle.pls_parts.specs.laws.CutLaws.{both_parts, drop_front, take_front}
use Rattle.pls_combine.specs.Converted.{both_joined, by_parts, by_tag, converted}
use Rattle.pls_combine.specs.Expression.{judge_map, judge_of, leaves_of}

-- a view narrowed in two ways that are one for each of its labels
narrow-same : (f g : List Bool → List Bool) (view : Seen) → EachFits (λ bits. f bits ≡ g bits) view
    → narrow_by f view ≡ narrow_by g view
narrow-same f g view each = rw (each.own, by view.ports each.ports) refl
  where
    by : (ports : List SeenPort) → All (λ (port : SeenPort). f port.label ≡ g port.label) ports
        → map (narrow_port f) ports ≡ map (narrow_port g) ports
    by [] each = refl
    by (port ∷ ports) each =
        let first = All-head (λ (port : SeenPort). f port.label ≡ g port.label) port ports each in
        let others = by ports (All-tail (λ (port : SeenPort). f port.label ≡ g port.label) port ports each) in
        rw (first, others) refl

-- a view narrowed twice
narrow-twice : (f g : List Bool → List Bool) (view : Seen)
    → narrow_by f (narrow_by g view) ≡ narrow_by (λ bits. f (g bits)) view
narrow-twice f g view = rw (by view.ports) refl
  where
    by : (ports : List SeenPort)
        → map (narrow_port f) (map (narrow_port g) ports) ≡ map (narrow_port (λ bits. f (g bits))) ports
    by [] = refl
    by (port ∷ ports) = rw (by ports) refl

-- a test that each label of a view passes when it is narrowed
all_narrowed : (test : List Bool → Bool) (f : List Bool → List Bool) (ports : List SeenPort)
    → All (λ (port : SeenPort). test (f port.label) ≡ true) ports
    → list_all (λ (port : SeenPort). test port.label) (map (narrow_port f) ports) ≡ true
all_narrowed test f ports each =
    list_all-map (λ (port : SeenPort). test port.label) (narrow_port f) ports
    ∙ list_all-from_AllPass (λ (port : SeenPort). test (f port.label)) ports each

-- a part of each label of a view, where this is known of the whole labels
part_alike : (to part_to : List Bool → Option (List Bool)) (old new : Seen → Verdict)
    (part new_part : List Bool → List Bool) (Known : List Bool → Type 0)
    → JudgesAlike part_to old new
    → ((bits : List Bool) → Known bits → Changes part_to (part bits))
    → ((bits : List Bool) → Known bits → new_part (changed to bits) ≡ changed part_to (part bits))
    → (view : Seen) → EachFits Known view
    → new (narrow_by new_part (narrow_by (changed to) view)) ≡ old (narrow_by part view)
part_alike to part_to old new part new_part Known alike changes same view each =
    ap new (
    narrow-twice new_part (changed to) view
    ∙ narrow-same (λ bits. new_part (changed to bits)) (λ bits. changed part_to (part bits)) view
    (record {
      own = same view.own each.own;
      ports = λ k d within. same _ (each.ports k d within);
    })
    ∙ sym (narrow-twice (changed part_to) part view)
    )
    ∙ alike (narrow_by part view) (record {
      own = changes view.own each.own;
      ports = All-map (λ (port : SeenPort). Changes part_to port.label) (narrow_port part) view.ports
          (λ k d within. changes _ (each.ports k d within));
    })

module _ (code new_code : ℕ → List Bool) (takes new_takes : List Bool → Option (ℕ × List Bool))
    (old : IsCode code takes) (new : IsCode new_code new_takes) where
  module _ (first_to second_to : List Bool → Option (List Bool)) where
    -- what becomes of a label of a conjunction
    abbrev both_to : List Bool → Option (List Bool)
    both_to bits = by_parts new_code first_to second_to (parts_of takes bits)

    -- the parts of a label, and what becomes of them
    record PartsChange (bits : List Bool) : Type 0 where
      pub front : List Bool
      pub back : List Bool
      pub parts : parts_of takes bits ≡ Some (both_parts front back)
      pub first : Changes first_to front
      pub second : Changes second_to back
      pub again : parts_of new_takes (changed both_to bits) ≡ Some (both_parts first.new second.new)

    parts_again : (front back : List Bool) → length front ≤ MAX_CODED
        → parts_of new_takes (joined_bits new_code front back) ≡ Some (both_parts front back)
    parts_again front back small =
        let within : nat_le (length front) (length (front ++ back)) ≡ true =
        le-leb (length front) (length (front ++ back)) (let long = length-append front back in omega (arith, long)) in
        rw (new.taken (length front) (front ++ back) small, within, take_front front back, drop_front front back) refl

    parts_change : (bits : List Bool) → Changes both_to bits → PartsChange bits
    parts_change bits changes = by (parts_of takes bits) refl changes.is
      where
        made : (front back one two : List Bool) → parts_of takes bits ≡ Some (both_parts front back)
            → first_to front ≡ Some one → second_to back ≡ Some two
            → Some (joined_bits new_code one two) ≡ Some changes.new → PartsChange bits
        made front back one two parts one_is two_is is =
            let whole : joined_bits new_code one two ≡ changes.new =
            same_Some (joined_bits new_code one two) changes.new is in
            let long = length-append (new_code (length one)) (one ++ two) in
            let parts_long = length-append one two in
            let all = ap (λ (bits : List Bool). length bits) whole in
            let short = changes.short in
            let small : length one ≤ MAX_CODED = omega (arith, long, parts_long, all, short) in
            record {
              front = front;
              back = back;
              parts = parts;
              first = record { new = one; is = one_is; short = small };
              second = record {
                new = two;
                is = two_is;
                short = omega (arith, long, parts_long, all, short);
              };
              again = rw (parts, one_is, two_is) (parts_again one two small);
            }

        second_by : (front back one : List Bool) (two : Option (List Bool))
            → parts_of takes bits ≡ Some (both_parts front back) → first_to front ≡ Some one
            → second_to back ≡ two → both_joined new_code (Some one) two ≡ Some changes.new
            → PartsChange bits
        second_by front back one None parts one_is two_is is = absurd (cc)
        second_by front back one (Some two) parts one_is two_is is =
            made front back one two parts one_is two_is is

        first_by : (front back : List Bool) (one : Option (List Bool))
            → parts_of takes bits ≡ Some (both_parts front back) → first_to front ≡ one
            → both_joined new_code one (second_to back) ≡ Some changes.new → PartsChange bits
        first_by front back None parts one_is is = absurd (cc)
        first_by front back (Some one) parts one_is is =
            second_by front back one (second_to back) parts one_is refl is

        by : (found : Option (List Bool × List Bool)) → parts_of takes bits ≡ found
            → by_parts new_code first_to second_to found ≡ Some changes.new → PartsChange bits
        by None parts is = absurd (cc)
        by (Some found) parts is = first_by found.0 found.1 (first_to found.0) parts refl is

    first_changes : (bits : List Bool) → Changes both_to bits
        → Changes first_to (first_part takes bits)
    first_changes bits changes = let here = parts_change bits changes in rw here.parts here.first

    second_changes : (bits : List Bool) → Changes both_to bits
        → Changes second_to (second_part takes bits)
    second_changes bits changes = let here = parts_change bits changes in rw here.parts here.second

    first_same : (bits : List Bool) → Changes both_to bits
        → first_part new_takes (changed both_to bits) ≡ changed first_to (first_part takes bits)
    first_same bits changes =
        let here = parts_change bits changes in rw (here.again, here.parts, here.first.is) refl

    second_same : (bits : List Bool) → Changes both_to bits
        → second_part new_takes (changed both_to bits) ≡ changed second_to (second_part takes bits)
    second_same bits changes =
        let here = parts_change bits changes in rw (here.again, here.parts, here.second.is) refl

    has_old : (bits : List Bool) → Changes both_to bits → has_parts takes bits ≡ true
    has_old bits changes = let here = parts_change bits changes in rw here.parts refl

    has_new : (bits : List Bool) → Changes both_to bits
        → has_parts new_takes (changed both_to bits) ≡ true
    has_new bits changes = let here = parts_change bits changes in rw here.again refl

    -- a conjunction
    both_alike : (one two new_one new_two : Seen → Verdict) (leaves : ℕ)
        → JudgesAlike first_to one new_one → JudgesAlike second_to two new_two
        → JudgesAlike both_to (judge_both takes one leaves two)
        (judge_both new_takes new_one leaves new_two)
    both_alike one two new_one new_two leaves first second view each =
        let own = has_old view.own each.own in
        let new_own = has_new view.own each.own in
        let ports : list_all (λ (port : SeenPort). has_parts takes port.label) view.ports ≡ true =
        list_all-from_AllPass (λ (port : SeenPort). has_parts takes port.label) view.ports
        (λ k d within. has_old _ (each.ports k d within)) in
        let new_ports = all_narrowed (has_parts new_takes) (changed both_to) view.ports
        (λ k d within. has_new _ (each.ports k d within)) in
        let a = part_alike both_to first_to one new_one (first_part takes) (first_part new_takes)
        (Changes both_to) first first_changes first_same view each in
        let b = part_alike both_to second_to two new_two (second_part takes) (second_part new_takes)
        (Changes both_to) second second_changes second_same view each in
        rw (own, new_own, ports, new_ports) (ap₂ (λ a b. else_second a (verdict_behind leaves b)) a b)

module _ (first_to second_to : List Bool → Option (List Bool)) where
  -- what becomes of the part that a tag names, and of a label of a disjunction
  abbrev rest_to : Bool → List Bool → Option (List Bool)
  rest_to false bits = first_to bits
  rest_to true bits = second_to bits

  abbrev one_of_to : List Bool → Option (List Bool)
  one_of_to bits = by_tag first_to second_to bits

  -- a label with its tag, and what becomes of it
  record TagChange (bits : List Bool) : Type 0 where
    pub tag : Bool
    pub rest : List Bool
    pub whole : bits ≡ tag ∷ rest
    pub becomes : Changes (rest_to tag) rest
    pub again : changed one_of_to bits ≡ tag ∷ becomes.new

  tag_change : (bits : List Bool) → Changes one_of_to bits → TagChange bits
  tag_change [] changes = absurd (let none : None ≡ Some changes.new = changes.is in cc)
  tag_change (tag ∷ rest) changes = by tag changes.is
    where
      of_rest : (tag : Bool) (found : Option (List Bool)) → rest_to tag rest ≡ found
          → one_of_to (tag ∷ rest) ≡ option_map (λ bits. tag ∷ bits) found
          → option_map (λ bits. tag ∷ bits) found ≡ Some changes.new → TagChange (tag ∷ rest)
      of_rest tag None rest_is whole is = absurd (cc)
      of_rest tag (Some new) rest_is whole is =
          let same : tag ∷ new ≡ changes.new = same_Some (tag ∷ new) changes.new is in
          let long = ap (λ (bits : List Bool). length bits) same in
          let short = changes.short in
          record {
            tag = tag;
            rest = rest;
            whole = refl;
            becomes = record { new = new; is = rest_is; short = omega (arith, long, short) };
            again = ap (λ (found : Option (List Bool)). unwrap_or found []) whole;
          }

      by : (tag : Bool) → one_of_to (tag ∷ rest) ≡ Some changes.new → TagChange (tag ∷ rest)
      by false is = of_rest false (first_to rest) refl refl is
      by true is = of_rest true (second_to rest) refl refl is

  -- the tag stays
  tag_stays : (bits : List Bool) → Changes one_of_to bits
      → tag_of (changed one_of_to bits) ≡ tag_of bits
  tag_stays bits changes =
      let here = tag_change bits changes in ap tag_of here.again ∙ ap tag_of (sym here.whole)

  is_tagged-stays : (tag : Bool) (bits : List Bool) → Changes one_of_to bits
      → is_tagged tag (changed one_of_to bits) ≡ is_tagged tag bits
  is_tagged-stays tag bits changes =
      let here = tag_change bits changes in
      ap (is_tagged tag) here.again ∙ same tag here.tag here.becomes.new here.rest
      ∙ ap (is_tagged tag) (sym here.whole)
    where
      same : (tag own : Bool) (one other : List Bool) → is_tagged tag (own ∷ one) ≡ is_tagged tag (own ∷ other)
      same true own one other = refl
      same false own one other = refl

  is_tag : (bits : List Bool) → Changes one_of_to bits → is_some (tag_of bits) ≡ true
  is_tag bits changes = let here = tag_change bits changes in rw here.whole refl

  -- where the tag is this one, the rest changes as its part does
  rest_changes : (tag : Bool) (bits : List Bool) → Changes one_of_to bits
      → is_tagged tag bits ≡ true → Changes (rest_to tag) (drop 1 bits)
  rest_changes tag bits changes tagged =
      let here = tag_change bits changes in
      let own : is_tagged tag (here.tag ∷ here.rest) ≡ true = rw here.whole at tagged in
      rw here.whole (by tag here.tag own here.becomes)
    where
      by : (tag own : Bool) {rest : List Bool} → is_tagged tag (own ∷ rest) ≡ true
          → Changes (rest_to own) rest → Changes (rest_to tag) rest
      by true true is becomes = becomes
      by true false is becomes = absurd (let no : false ≡ true = is in cc)
      by false false is becomes = becomes
      by false true is becomes = absurd (let no : false ≡ true = is in cc)

  -- where the tag is this one, what becomes of the rest stands behind it
  rest_same : (tag : Bool) (bits : List Bool) → Changes one_of_to bits → is_tagged tag bits ≡ true
      → drop 1 (changed one_of_to bits) ≡ changed (rest_to tag) (drop 1 bits)
  rest_same tag bits changes tagged =
      let here = tag_change bits changes in
      let own : is_tagged tag (here.tag ∷ here.rest) ≡ true =
      ap (is_tagged tag) (sym here.whole) ∙ tagged in
      ap (drop 1) here.again
      ∙ by tag here.tag here.rest own here.becomes.new here.becomes.is
      ∙ ap (λ (bits : List Bool). changed (rest_to tag) (drop 1 bits)) (sym here.whole)
    where
      by : (tag own : Bool) (rest : List Bool) → is_tagged tag (own ∷ rest) ≡ true
          → (new : List Bool) → rest_to own rest ≡ Some new → new ≡ changed (rest_to tag) rest
      by true true rest is new becomes = ap (λ (found : Option (List Bool)). unwrap_or found []) (sym becomes)
      by true false rest is new becomes = absurd (let no : false ≡ true = is in cc)
      by false false rest is new becomes = ap (λ (found : Option (List Bool)). unwrap_or found []) (sym becomes)
      by false true rest is new becomes = absurd (let no : false ≡ true = is in cc)

  -- a test of the labels at ports that does not see the change
  ports_stay : (test : List Bool → Bool)
      → ((bits : List Bool) → Changes one_of_to bits → test (changed one_of_to bits) ≡ test bits)
      → (ports : List SeenPort) → All (λ (port : SeenPort). Changes one_of_to port.label) ports
      → list_all (λ (port : SeenPort). test port.label) (map (narrow_port (changed one_of_to)) ports)
      ≡ list_all (λ (port : SeenPort). test port.label) ports
  ports_stay test same [] each = refl
  ports_stay test same (port ∷ ports) each =
      ap₂ (λ a b. a && b)
      (same port.label (All-head (λ (port : SeenPort). Changes one_of_to port.label) port ports each))
      (ports_stay test same ports
      (All-tail (λ (port : SeenPort). Changes one_of_to port.label) port ports each))

  module _ (one two new_one new_two : Seen → Verdict) (leaves : ℕ)
      (first : JudgesAlike first_to one new_one) (second : JudgesAlike second_to two new_two) where
    -- the part that the tag names
    tagged_alike : (tag : Bool) (view : Seen)
        → EachFits (λ bits. Changes one_of_to bits × (is_tagged tag bits ≡ true)) view
        → judge_tagged new_one leaves new_two tag (narrow_by (changed one_of_to) view)
        ≡ judge_tagged one leaves two tag view
    tagged_alike false view each =
        part_alike one_of_to first_to one new_one (drop 1) (drop 1)
        (λ bits. Changes one_of_to bits × (is_tagged false bits ≡ true)) first
        (λ bits known. rest_changes false bits known.0 known.1)
        (λ bits known. rest_same false bits known.0 known.1) view each
    tagged_alike true view each =
        ap (verdict_behind leaves) (part_alike one_of_to second_to two new_two (drop 1) (drop 1)
        (λ bits. Changes one_of_to bits × (is_tagged true bits ≡ true)) second
        (λ bits known. rest_changes true bits known.0 known.1)
        (λ bits known. rest_same true bits known.0 known.1) view each)

    -- a disjunction
    one_of_alike : JudgesAlike one_of_to (judge_one_of one leaves two)
        (judge_one_of new_one leaves new_two)
    one_of_alike view each =
        ap (judge_own_tag new_one leaves new_two (narrow_by (changed one_of_to) view))
        (tag_stays view.own each.own)
        ∙ by (tag_of view.own) refl
      where
        own_tagged : (tag : Bool) (bits : List Bool) → tag_of bits ≡ Some tag → is_tagged tag bits ≡ true
        own_tagged tag [] is = absurd (cc)
        own_tagged true (own ∷ rest) is = same_Some own true is
        own_tagged false (own ∷ rest) is = ap not (same_Some own false is)

        all_tagged : (tag same : Bool) → tag_of view.own ≡ Some tag
            → list_all (λ (port : SeenPort). is_tagged tag port.label) view.ports ≡ same
            → (if same then judge_tagged new_one leaves new_two tag (narrow_by (changed one_of_to) view)
            else Reject 0 3)
            ≡ (if same then judge_tagged one leaves two tag view else Reject 0 3)
        all_tagged tag false is tagged = refl
        all_tagged tag true is tagged =
            tagged_alike tag view (record {
              own = (each.own, own_tagged tag view.own is);
              ports = λ k d within. (
                each.ports k d within,
                AllPass-from_list_all (λ (port : SeenPort). is_tagged tag port.label) view.ports tagged
                    k d within,
              );
            })

        by : (tag : Option Bool) → tag_of view.own ≡ tag
            → judge_own_tag new_one leaves new_two (narrow_by (changed one_of_to) view) tag
            ≡ judge_own_tag one leaves two view tag
        by None is = refl
        by (Some tag) is =
            let there = ports_stay (λ bits. is_some (tag_of bits))
            (λ bits changes. ap is_some (tag_stays bits changes)) view.ports each.ports in
            let same = ports_stay (is_tagged tag) (is_tagged-stays tag) view.ports each.ports in
            rw (there, same)
            (ap (λ (verdict : Verdict). if list_all (λ (port : SeenPort). is_some (tag_of port.label))
            view.ports then verdict else Reject 0 2)
            (all_tagged tag (list_all (λ (port : SeenPort). is_tagged tag port.label) view.ports) is refl))

-- labels that are written in another code are judged alike
pub expression_alike : (code new_code : ℕ → List Bool)
    (takes new_takes : List Bool → Option (ℕ × List Bool)) → IsCode code takes
    → IsCode new_code new_takes → (scheme : Expression)
    → JudgesAlike (converted takes new_code scheme) (judge_of takes scheme)
    (judge_of new_takes scheme)
expression_alike code new_code takes new_takes old new = by
  where
    of_map : (property : Expression)
        → JudgesAlike (recoded map_shape takes new_code) (judge_map takes property)
        (judge_map new_takes property)
    of_map property =
        verdict_alike map_shape map_numbers code new_code takes new_takes old new
        (map_rules (test_of property))

    by : (scheme : Expression) → JudgesAlike (converted takes new_code scheme)
        (judge_of takes scheme) (judge_of new_takes scheme)
    by (Of name) = (laws_of name).alike code new_code takes new_takes old new
    by (Diameter most) = of_map (Diameter most)
    by Bridgeless = of_map Bridgeless
    by (Map property) = of_map (Map property)
    by (And first second) =
        both_alike code new_code takes new_takes old new (converted takes new_code first)
        (converted takes new_code second) (judge_of takes first) (judge_of takes second)
        (judge_of new_takes first) (judge_of new_takes second) (leaves_of first) (by first) (by second)
    by (Or first second) =
        one_of_alike (converted takes new_code first) (converted takes new_code second)
        (judge_of takes first) (judge_of takes second) (judge_of new_takes first)
        (judge_of new_takes second) (leaves_of first) (by first) (by second)
