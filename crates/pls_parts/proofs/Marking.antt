-- Labels of combinations are accepted where those of their parts are, and are short where these
-- are.
use Rattle.std.proofs.Common.{◌≡◌, ◌∙◌, ℕ, ◌+◌, ◌-◌, ◌^◌, ◌<◌, ◌≤◌, ◌++◌, Bool, true, false, List, [], ◌∷◌, map, length, drop, get_or, All, Contains, Option, None, Some, if◌then◌else◌, nat_le, not, refl, sym, ap, subst, arith}
use Rattle.std.specs.List.{list_all}
use Rattle.std.specs.Option.{is_some}
use Rattle.std.proofs.lemmas.Bool.{leb-false, leb-true}
use Rattle.std.proofs.lemmas.List.{get_or-map, get_or_default, length-append, length-map, same_lists}
use Rattle.std.proofs.lemmas.List.Elements.{All-contains, All-map, Contains-get_or}
use Rattle.std.proofs.lemmas.List.Sums.{list_all-from_AllPass}
use Rattle.std.proofs.lemmas.Option.{same_Some}
use Rattle.pls_configuration.specs.declared.row.NodeRow.{NodeRow}
use Rattle.pls_configuration.specs.declared.verdict.Verdict.{Verdict}
use Rattle.pls_configuration.specs.declared.verdict.Verdict.TheVariants.{Accept}
use Rattle.pls_configuration.specs.Configuration.{IsNetwork}
use Rattle.pls_bits.specs.NumberCode.{Grows, IsShort, TakesCodes, TakesOnly}
use Rattle.pls_bits.specs.declared.num_code.TheConstants.{MAX_CODED}
use Rattle.pls_graph.proofs.Members.{Contains-map}
use Rattle.pls_labels.specs.Seen.{EachFits, Seen, SeenPort, label_of, narrow_by, seen}
use Rattle.pls_labels.proofs.Narrowed.{seen-narrowed, seen_fits}
use Rattle.pls_scheme.specs.Judging.{AllAccept}
use Rattle.pls_scheme.specs.Length.{code_length}
use Rattle.pls_streams.specs.Steps.{capped}
use Rattle.pls_parts.specs.Parts.{cut_at, first_part, has_parts, is_tagged, parts_of, second_part, tag_of}
use Rattle.pls_parts.specs.Combined.{judge_both, judge_one_of, judge_tagged}
use Rattle.pls_parts.specs.Joined.{EachJoined, joined_at, joined_bits, longest_both}
use Rattle.pls_parts.specs.Tagged.{EachTagged, tagged_at}
use Rattle.pls_parts.specs.inner.Fits.{AllFit, HasCodes}
use Rattle.pls_parts.specs.laws.BothLaws.{first_of_nothing, second_of_nothing}
use Rattle.pls_parts.specs.laws.CutLaws.{both_parts, drop_front, take_front}
use Rattle.pls_parts.proofs.Verdicts.{judged_parts}

module _ (code : ℕ → List Bool) (takes : List Bool → Option (ℕ × List Bool))
    (taken : TakesCodes code takes) (only : TakesOnly code takes) where
  -- joined bits have these two parts
  parts_of_joined : (front back : List Bool) → length front ≤ MAX_CODED
      → parts_of takes (joined_bits code front back) ≡ Some (both_parts front back)
  parts_of_joined front back short =
      rw (taken (length front) (front ++ back) short)
      (cut (nat_le (length front) (length (front ++ back))) refl)
    where
      cut : (b : Bool) → nat_le (length front) (length (front ++ back)) ≡ b
          → (if b then Some (cut_at (length front) (front ++ back)) else None)
          ≡ Some (both_parts front back)
      cut true is = rw (take_front front back, drop_front front back) refl
      cut false is = absurd (omega (arith, leb-false (length front) (length (front ++ back)) is, length-append front back))

  module _ (first : Seen → Verdict) (leaves : ℕ) (second : Seen → Verdict) (rows : List NodeRow)
      (net : IsNetwork rows) (fronts backs labels : List (List Bool))
      (one : length fronts ≡ length rows) (two : length backs ≡ length rows)
      (coded : HasCodes fronts)
      (joined : EachJoined code fronts backs labels) where
    parts_at : (i : ℕ) → i < length fronts → parts_of takes (get_or labels i [])
        ≡ Some (both_parts (get_or fronts i []) (get_or backs i []))
    parts_at i within =
        rw (joined.label i within)
        (parts_of_joined (get_or fronts i []) (get_or backs i []) (coded i [] within))

    have_parts : All (λ label. has_parts takes label ≡ true) labels
    have_parts i d within =
        let at : i < length fronts = omega (arith, within, joined.each) in
        rw (get_or_default labels i d [] within, parts_at i at) refl

    firsts : map (first_part takes) labels ≡ fronts
    firsts = same_lists (map (first_part takes) labels) fronts
        (length-map labels (first_part takes) ∙ joined.each)
        (λ i d within.
        let here : i < length labels =
        subst (λ (n : ℕ). i < n) (length-map labels (first_part takes)) within in
        let at : i < length fronts = omega (arith, here, joined.each) in
        get_or-map (first_part takes) labels i [] d here ∙ rw (parts_at i at) refl
        ∙ get_or_default fronts i [] d at)

    seconds : map (second_part takes) labels ≡ backs
    seconds = same_lists (map (second_part takes) labels) backs
        (length-map labels (second_part takes) ∙ joined.each ∙ one ∙ sym two)
        (λ i d within.
        let here : i < length labels =
        subst (λ (n : ℕ). i < n) (length-map labels (second_part takes)) within in
        let at : i < length fronts = omega (arith, here, joined.each) in
        get_or-map (second_part takes) labels i [] d here ∙ rw (parts_at i at) refl
        ∙ get_or_default backs i [] d (omega (arith, at, one, two)))

    -- where all accept the parts, all accept what is joined of them
    pub both_accepted : AllAccept first rows fronts → AllAccept second rows backs
        → AllAccept (judge_both takes first leaves second) rows labels
    both_accepted first_accepted second_accepted =
        All-map (λ (view : Seen). judge_both takes first leaves second view ≡ Accept)
        (seen (label_of rows labels)) rows
        (λ k d within. at (get_or rows k d) (Contains-get_or rows k d within))
      where
        part : (judge : Seen → Verdict) (parts : List (List Bool)) → AllAccept judge rows parts
            → (row : NodeRow) → Contains rows row → judge (seen (label_of rows parts) row) ≡ Accept
        part judge parts accepted row in' =
            All-contains (λ (view : Seen). judge view ≡ Accept) (map (seen (label_of rows parts)) rows)
            (seen (label_of rows parts) row) accepted
            (Contains-map (seen (label_of rows parts)) rows row in')

        at : (row : NodeRow) → Contains rows row
            → judge_both takes first leaves second (seen (label_of rows labels) row) ≡ Accept
        at row in' =
            let view : Seen = seen (label_of rows labels) row in
            let front : narrow_by (first_part takes) view ≡ seen (label_of rows fronts) row =
            sym (seen-narrowed (first_part takes) (first_of_nothing code takes only) rows labels row)
            ∙ ap (λ (parts : List (List Bool)). seen (label_of rows parts) row) firsts in
            let back : narrow_by (second_part takes) view ≡ seen (label_of rows backs) row =
            sym (seen-narrowed (second_part takes) (second_of_nothing code takes only) rows labels row)
            ∙ ap (λ (parts : List (List Bool)). seen (label_of rows parts) row) seconds in
            judged_parts takes first leaves second view
            (seen_fits rows net labels (joined.each ∙ one) (λ bits. has_parts takes bits ≡ true)
            have_parts row in')
            ∙ rw (
              front,
              back,
              part first fronts first_accepted row in',
              part second backs second_accepted row in',
            ) refl

    -- and what is joined is as long as the bound says
    pub both_short : Grows code → IsShort code → AllFit (joined_at code fronts backs) (length fronts)
        → (a b : ℕ) → All (λ front. length front ≤ capped a) fronts
        → All (λ back. length back ≤ capped b) backs
        → All (λ label. length label ≤ capped (longest_both code a b)) labels
    both_short grows short fit a b front_short back_short i d within =
        let at : i < length fronts = omega (arith, within, joined.each) in
        let front : List Bool = get_or fronts i [] in
        let back : List Bool = get_or backs i [] in
        let is : get_or labels i d ≡ joined_bits code front back =
        get_or_default labels i d [] within ∙ joined.label i at in
        let long : length (joined_bits code front back)
        ≡ length (code (length front)) + (length front + length back) =
        length-append (code (length front)) (front ++ back)
        ∙ ap (λ (n : ℕ). length (code (length front)) + n) (length-append front back) in
        let few : length front ≤ capped a = front_short i [] at in
        let more : length back ≤ capped b = back_short i [] (omega (arith, at, one, two)) in
        let coded_few : length (code (length front)) ≤ code_length code a =
        by (nat_le a MAX_CODED) refl (length front) (omega (arith, few)) (coded i [] at) in
        let word : length (joined_bits code front back) ≤ 2 ^ 64 - 1 = fit i at in
        rw is (omega (arith, word, long, few, more, coded_few))
      where
        by : (b : Bool) → nat_le a MAX_CODED ≡ b → (number : ℕ) → number ≤ a
            → number ≤ MAX_CODED
            → length (code number) ≤ (if b then length (code a) else 2 ^ 64 - 1)
        by true is number few small = grows number a few (leb-true a MAX_CODED is)
        by false is number few small = omega (arith, short number small)

-- bits with this tag pass its test
has_this_tag : (tag : Bool) (bits : List Bool) → tag_of bits ≡ Some tag → is_tagged tag bits ≡ true
has_this_tag tag [] is = absurd (cc)
has_this_tag true (other ∷ rest) is = same_Some other true is
has_this_tag false (other ∷ rest) is = ap not (same_Some other false is)

module _ (first : Seen → Verdict) (leaves : ℕ) (second : Seen → Verdict) where
  -- the part that the tag names
  abbrev pub named : Bool → Seen → Verdict
  named false = first
  named true = second

  named_accepts : (tag : Bool) (view : Seen) → named tag (narrow_by (drop 1) view) ≡ Accept
      → judge_tagged first leaves second tag view ≡ Accept
  named_accepts false view is = is
  named_accepts true view is = rw is refl

  module _ (rows : List NodeRow) (net : IsNetwork rows) (tag : Bool)
      (rests labels : List (List Bool)) (one : length rests ≡ length rows)
      (tagged : EachTagged tag rests labels) where
    tags : All (λ label. tag_of label ≡ Some tag) labels
    tags i d within =
        rw (get_or_default labels i d [] within, tagged.label i (omega (arith, within, tagged.each)))
        refl

    rest : map (drop 1) labels ≡ rests
    rest = same_lists (map (drop 1) labels) rests
        (length-map labels (drop 1) ∙ tagged.each)
        (λ i d within.
        let here : i < length labels = subst (λ (n : ℕ). i < n) (length-map labels (drop 1)) within in
        let at : i < length rests = omega (arith, here, tagged.each) in
        get_or-map (drop 1) labels i [] d here ∙ rw (tagged.label i at) refl
        ∙ get_or_default rests i [] d at)

    -- where all accept what stands behind the tag, all accept the whole
    pub tagged_accepted : AllAccept (named tag) rows rests
        → AllAccept (judge_one_of first leaves second) rows labels
    tagged_accepted accepted =
        All-map (λ (view : Seen). judge_one_of first leaves second view ≡ Accept)
        (seen (label_of rows labels)) rows
        (λ k d within. at (get_or rows k d) (Contains-get_or rows k d within))
      where
        at : (row : NodeRow) → Contains rows row
            → judge_one_of first leaves second (seen (label_of rows labels) row) ≡ Accept
        at row in' =
            let view : Seen = seen (label_of rows labels) row in
            let fits : EachFits (λ bits. tag_of bits ≡ Some tag) view =
            seen_fits rows net labels (tagged.each ∙ one) (λ bits. tag_of bits ≡ Some tag) tags row
            in' in
            let some : list_all (λ port. is_some (tag_of port.label)) view.ports ≡ true =
            list_all-from_AllPass (λ (port : SeenPort). is_some (tag_of port.label)) view.ports
            (λ p d within. rw (fits.ports p d within) refl) in
            let this : list_all (λ port. is_tagged tag port.label) view.ports ≡ true =
            list_all-from_AllPass (λ (port : SeenPort). is_tagged tag port.label) view.ports
            (λ p d within. has_this_tag tag (get_or view.ports p d).label (fits.ports p d within)) in
            let part : narrow_by (drop 1) view ≡ seen (label_of rows rests) row =
            sym (seen-narrowed (drop 1) refl rows labels row)
            ∙ ap (λ (parts : List (List Bool)). seen (label_of rows parts) row) rest in
            let accepts : named tag (seen (label_of rows rests) row) ≡ Accept =
            All-contains (λ (view : Seen). named tag view ≡ Accept)
            (map (seen (label_of rows rests)) rows) (seen (label_of rows rests) row) accepted
            (Contains-map (seen (label_of rows rests)) rows row in') in
            rw (fits.own, some, this)
            (named_accepts tag view (subst (λ (view : Seen). named tag view ≡ Accept) (sym part) accepts))

    -- and the whole is as long as the bound says
    pub tagged_short : AllFit (tagged_at tag rests) (length rests) → (few most : ℕ) → few ≤ most
        → All (λ rest. length rest ≤ capped few) rests
        → All (λ label. length label ≤ capped (1 + most)) labels
    tagged_short fit few most within short i d here =
        let at : i < length rests = omega (arith, here, tagged.each) in
        let is : get_or labels i d ≡ tag ∷ get_or rests i [] =
        get_or_default labels i d [] here ∙ tagged.label i at in
        rw is (omega (arith, within, short i [] at, fit i at))
