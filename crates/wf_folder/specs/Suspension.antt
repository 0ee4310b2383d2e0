-- Why a node is suspended.
use Rattle.std.specs.Prelude.{◌≡◌, ◌<◌, ◌^◌, length, Option, Some, None}
use Rattle.hex.specs.Hex.{IsBytes}
use Rattle.wf_ballot.specs.Node.{IsNode}
use Rattle.wf_folder.specs.declared.suspension.Suspension.{Suspension}

-- a peer with an address of 16 bytes and a port, and a cause of one byte
pub record IsSuspension (s : Suspension) : Type 0 where
  pub by_node : IsNode s.accuser
  pub bytes : IsBytes s.address.ip
  pub size : length s.address.ip ≡ 16
  pub to_port : s.address.port < 2 ^ 16
  pub of_byte : s.cause < 2 ^ 8

abbrev pub IsSuspensionOrNone : Option Suspension → Type 0
IsSuspensionOrNone None = Unit {0}
IsSuspensionOrNone (Some s) = IsSuspension s
