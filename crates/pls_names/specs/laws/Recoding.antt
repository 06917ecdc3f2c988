-- Labels that are written in another number code are judged alike.
use Rattle.std.proofs.Common.{◌≡◌, ◌∙◌, ℕ, ◌≤◌, Bool, List, [], ◌∷◌, length, map, Option, Some, None, option_map, All, refl, sym, ap, ap₂}
use Rattle.std.specs.Prelude.{option_and_then, unwrap_or}
use Rattle.std.proofs.lemmas.List.Elements.{All-head, All-tail}
use Rattle.pls_bits.specs.NumberCode.{TakesCodes, TakesOnly}
use Rattle.pls_bits.specs.declared.num_code.TheConstants.{MAX_CODED}
use Rattle.pls_configuration.specs.declared.verdict.Verdict.{Verdict}
use Rattle.pls_numbers.specs.Shape.{AreItsNumbers, IsSpelled, Shape, recoded, said_by, spelling}
use Rattle.pls_numbers.specs.laws.FormatLaws.{said_spells}
use Rattle.pls_labels.specs.Seen.{EachFits, Seen, SeenPort, narrow_by, narrow_port}
use Rattle.pls_scheme.specs.Basic.{verdict_by}
use Rattle.pls_scheme.specs.Reading.{Read, ReadPort, judge_by, judged_read, read_port, read_ports}

-- a code takes off its own codes and nothing else
pub record IsCode (code : ℕ → List Bool) (takes : List Bool → Option (ℕ × List Bool))
    : Type 0 where
  pub taken : TakesCodes code takes
  pub only : TakesOnly code takes

-- what bits are changed to, and [] where they are changed to nothing
abbrev pub changed : (List Bool → Option (List Bool)) → List Bool → List Bool
changed to bits = unwrap_or (to bits) []

-- the bits are changed to some that are no longer than any number in code
pub record Changes (to : List Bool → Option (List Bool)) (bits : List Bool) : Type 0 where
  pub new : List Bool
  pub is : to bits ≡ Some new
  pub short : length new ≤ MAX_CODED

-- where each label of a view is changed, the verdict stays
abbrev pub JudgesAlike : (List Bool → Option (List Bool)) → (Seen → Verdict) → (Seen → Verdict)
    → Type 0
JudgesAlike to old new =
    (view : Seen) → EachFits (Changes to) view → new (narrow_by (changed to) view) ≡ old view

module _ {L : Type 0} (read other : List Bool → Option L) (change : List Bool → List Bool) where
  read_port-narrow : (port : SeenPort) → other (change port.label) ≡ read port.label
      → read_port other (narrow_port change port) ≡ read_port read port
  read_port-narrow port same =
      ap (option_map (λ label. record { weight = port.weight; label = label })) same

  abbrev IsReadAlike : SeenPort → Type 0
  IsReadAlike port = other (change port.label) ≡ read port.label

  read_ports-narrow : (ports : List SeenPort) → All IsReadAlike ports
      → read_ports other (map (narrow_port change) ports) ≡ read_ports read ports
  read_ports-narrow [] each = refl
  read_ports-narrow (port ∷ ports) each =
      let first = read_port-narrow port (All-head IsReadAlike port ports each) in
      let others = read_ports-narrow ports (All-tail IsReadAlike port ports each) in
      rw (first, others) refl

  -- what is read the same is judged the same
  pub judge_by-narrow : (rules : Read L → List Bool) (view : Seen)
      → EachFits (λ bits. other (change bits) ≡ read bits) view
      → judge_by other rules (narrow_by change view) ≡ judge_by read rules view
  judge_by-narrow rules view each =
      rw (each.own, read_ports-narrow view.ports each.ports) (by (read view.own) (read_ports read view.ports))
    where
      by : (own : Option L) (ports : Option (List (ReadPort L)))
          → judged_read rules (narrow_by change view) own ports ≡ judged_read rules view own ports
      by None ports = refl
      by (Some own) None = refl
      by (Some own) (Some ports) = refl

module _ {L : Type 0} (shape : Shape L) (law : AreItsNumbers shape) (code new_code : ℕ → List Bool)
    (takes new_takes : List Bool → Option (ℕ × List Bool)) (old : IsCode code takes)
    (new : IsCode new_code new_takes) where
  -- what a label says is said in another code
  pub said_recoded : (bits : List Bool) → Changes (recoded shape takes new_code) bits
      → said_by shape new_takes (changed (recoded shape takes new_code) bits)
      ≡ said_by shape takes bits
  said_recoded bits changes = by (said_by shape takes bits) refl changes.is
    where
      by : (said : Option L) → said_by shape takes bits ≡ said
          → option_map (spelling shape new_code) said ≡ Some changes.new
          → said_by shape new_takes (unwrap_or (option_map (spelling shape new_code)
          (said_by shape takes bits)) []) ≡ said_by shape takes bits
      by None said_is is = absurd (cc)
      by (Some label) said_is is =
          let spelled = (said_spells shape law code takes old.taken old.only bits label).0 said_is in
          let again : IsSpelled shape new_code (spelling shape new_code label) label = record {
            codes = record { coded = spelled.codes.coded; written = refl };
            proper = spelled.proper;
          } in
          rw said_is ((said_spells shape law new_code new_takes new.taken new.only
          (spelling shape new_code label) label).1 again)

  -- so it is judged alike
  pub verdict_alike : (rules : Read L → List Bool)
      → JudgesAlike (recoded shape takes new_code) (verdict_by shape rules takes)
      (verdict_by shape rules new_takes)
  verdict_alike rules view each =
      judge_by-narrow (said_by shape takes) (said_by shape new_takes)
      (changed (recoded shape takes new_code)) rules view
      (record {
        own = said_recoded view.own each.own;
        ports = λ k d within. said_recoded _ (each.ports k d within);
      })
