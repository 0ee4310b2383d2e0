-- Why a node doesn't begin.
use Rattle.std.specs.Prelude.{◌≡◌, ⊤, Option, Some}
use Rattle.std.specs.declared.net.socket_addr.SocketAddr.{SocketAddr}
use Rattle.wf_address.specs.declared.address_option.AddressOption.{AddressOption}
use Rattle.wf_address.specs.declared.address_option.AddressOption.TheVariants as options
use Rattle.wf_peer_connections.specs.declared.plan.LoopFault.{LoopFault}
use Rattle.wf_peer_connections.specs.declared.plan.LoopFault.TheVariants as fault
use Rattle.wf_peer_connections.specs.declared.plan.NodePlan.{NodePlan}
use Rattle.wf_ports.specs.Address.{address_of}

-- the address of an option in a plan, if it has one
abbrev pub planned_address : NodePlan → AddressOption → Option SocketAddr
planned_address plan options.Http = address_of plan.ports options.Http
planned_address plan options.Listen = Some plan.listen
planned_address plan options.Admin = address_of plan.ports options.Admin
planned_address plan options.Readers = address_of plan.ports options.Readers

-- the address that is taken is the plan's
abbrev pub IsStartError : NodePlan → LoopFault → Type 0
IsStartError plan fault.Poll = ⊤
IsStartError plan (fault.Taken option taken) = planned_address plan option ≡ Some taken
IsStartError plan fault.Memory = ⊤
