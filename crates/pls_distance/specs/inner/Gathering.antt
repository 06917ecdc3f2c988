-- What a node gathers of its ports.
use Rattle.pls_scheme.specs.Reading.{Read}
use Rattle.pls_distance.specs.declared.spt.SptLabel.{SptLabel}
use Rattle.pls_distance.specs.declared.gathering.PortTally.{PortTally}
use Rattle.pls_distance.specs.Spt.{agrees_on_its_root, is_beyond_target, is_nearest}

-- the own label, and which rules on the ports hold
abbrev pub spt_tally : Read SptLabel → PortTally
spt_tally view = record {
  own = view.own;
  agrees = agrees_on_its_root view;
  follows = is_beyond_target view;
  nearest = is_nearest view;
}
