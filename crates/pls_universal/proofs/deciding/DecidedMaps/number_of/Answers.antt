use Rattle.std.proofs.Common.{◌≡◌, ◌∙◌, IfSome, Some, sym, subst}
use Rattle.pls_numbers.specs.Shape.{said_by}
use Rattle.pls_universal.specs.Reading.{map_shape}
use Rattle.pls_universal.specs.laws.LabelLaws.{label-none}
use Rattle.pls_universal.specs.inner.Deciding.{IsDecidedMap, IsNumberOf, IsNumberOfMap}
use Rattle.pls_universal.specs.inner.Stating.{IsStated}
use Rattle.pls_universal.specs.declared.deciding.DecidedMap.{DecidedMap}
use Rattle.pls_universal.proofs.KnownMaps.{decided-within, known-map, one-decided, one-number}
use Rattle.pls_universal.proofs.deciding.DecidedMaps.number_of.Goals as goal

pub returns-in_default-clause-none : goal.returns-in_default-clause-none
returns-in_default-clause-none g c =
    label-none g.C.NumCode.code g.C.NumCode.takes g.met.C.NumCode.takes_codes
    g.met.C.NumCode.takes_only c.args.label.now (sym c.in_default.ensures)

pub is_number-requires : goal.is_number-requires
is_number-requires g c =
    decided-within g.C.NumCode.code g.C.NumCode.takes g.met.C.NumCode.takes_codes
    g.met.C.NumCode.takes_only (g.P.PropertyTest.test c.args.property.now)
    (g.L.Labels.listed c.args.labels.now) c.args.self.now c.requires.decided

pub seek-requires : goal.seek-requires
seek-requires g c =
    decided-within g.C.NumCode.code g.C.NumCode.takes g.met.C.NumCode.takes_codes
    g.met.C.NumCode.takes_only (g.P.PropertyTest.test c.args.property.now)
    (g.L.Labels.listed c.args.labels.now) c.args.self.now c.requires.decided

pub returns-then-is_number-clause-number : goal.returns-then-is_number-clause-number
returns-then-is_number-clause-number g c =
    known-map g.C.NumCode.code g.C.NumCode.takes g.met.C.NumCode.takes_codes
    g.met.C.NumCode.takes_only (g.P.PropertyTest.test c.args.property.now)
    (g.L.Labels.listed c.args.labels.now) c.args.self.now c.requires.decided
    c.args.label.now c.in-Some.field-0-0 c.in-Some.map c.saturating_sub-last.result
    (sym c.in-Some.ensures) (rw c.if-is_number.true at (c.is_number.ensures))

pub returns-in-Some-seek-clause-number : goal.returns-in-Some-seek-clause-number
returns-in-Some-seek-clause-number g c =
    let takes = g.C.NumCode.takes in
    let labels = g.L.Labels.listed c.args.labels.now in
    let map = c.in-Some.map in
    let is : IsNumberOfMap takes labels c.args.self.now map c.in-Some-seek.known =
    subst (λ found. IfSome found (IsNumberOfMap takes labels c.args.self.now map)) c.in-Some-seek.is
    c.seek.ensures in
    known-map g.C.NumCode.code takes g.met.C.NumCode.takes_codes g.met.C.NumCode.takes_only
    (g.P.PropertyTest.test c.args.property.now) labels c.args.self.now c.requires.decided
    c.args.label.now c.in-Some.field-0-0 map c.in-Some-seek.known (sym c.in-Some.ensures) is

pub returns-clause-decided : goal.returns-clause-decided
returns-clause-decided g c =
    let takes = g.C.NumCode.takes in
    let test = g.P.PropertyTest.test c.args.property.now in
    let map : DecidedMap = record { place = c.args.i; stated = c.in_ok-stated.stated } in
    let read : said_by map_shape takes c.args.label.now ≡ Some c.in-Some-2.read =
    sym c.in_ok-read.ensures ∙ c.in-Some-2.is in
    let found : IsDecidedMap takes test c.args.label.now map = record {
      own = c.in-Some-2.read;
      read = read;
      stated = subst (λ rows. IsStated test rows c.in_ok-stated.stated) c.as_slice.ensures
          c.in_ok-stated.ensures;
    } in
    one-decided g.C.NumCode.code takes g.met.C.NumCode.takes_codes g.met.C.NumCode.takes_only
    test (g.L.Labels.listed c.args.labels.now) c.args.self.now c.requires.decided
    c.put.new.self map c.args.label.now c.in_ok-number.ensures.maps c.requires.at found

pub returns-clause-number : goal.returns-clause-number
returns-clause-number g c =
    let takes = g.C.NumCode.takes in
    let test = g.P.PropertyTest.test c.args.property.now in
    let map : DecidedMap = record { place = c.args.i; stated = c.in_ok-stated.stated } in
    let read : said_by map_shape takes c.args.label.now ≡ Some c.in-Some-2.read =
    sym c.in_ok-read.ensures ∙ c.in-Some-2.is in
    let found : IsDecidedMap takes test c.args.label.now map = record {
      own = c.in-Some-2.read;
      read = read;
      stated = subst (λ rows. IsStated test rows c.in_ok-stated.stated) c.as_slice.ensures
          c.in_ok-stated.ensures;
    } in
    subst (IsNumberOf takes test c.put.new.self c.args.label.now) (sym c.in_ok-number.ensures.number)
    (one-number g.C.NumCode.code takes g.met.C.NumCode.takes_codes g.met.C.NumCode.takes_only
    test (g.L.Labels.listed c.args.labels.now) c.args.self.now c.requires.decided
    c.put.new.self map c.args.label.now c.in_ok-number.ensures.maps c.requires.at found)
