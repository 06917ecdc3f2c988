-- What the bytes of an input say, as they are read: from the text of a network on.
use Rattle.std.specs.Prelude.{◌≡◌, ℕ, List, ◌++◌}
use Rattle.pls_configuration.specs.declared.row.NodeRow.{NodeRow}
use Rattle.pls_configuration.specs.Configuration.{IsNetwork}
use Rattle.pls_netfile.specs.NetworkText.{AreRows, network_text}
use Rattle.pls_edits.specs.declared.edit_line.EditLine.{EditLine}
use Rattle.pls_edits.specs.EditsText.{edits_text}

-- the bytes are the text of this network
pub record IsNetworkText (bytes : List ℕ) (rows : List NodeRow) : Type 0 where
  pub network : IsNetwork rows
  pub ranges : AreRows rows
  pub is : bytes ≡ network_text rows

-- the bytes begin with the text of this network; there is one such network at most, since its last
-- line closes it
pub record BeginsWithNetwork (bytes : List ℕ) (rows : List NodeRow) : Type 0 where
  pub front : List ℕ
  pub behind : List ℕ
  pub says : IsNetworkText front rows
  pub is : bytes ≡ front ++ behind

-- the bytes end with the text of these edits
pub record EndsWithEdits (bytes : List ℕ) (edits : List EditLine) : Type 0 where
  pub before : List ℕ
  pub is : bytes ≡ before ++ edits_text edits
