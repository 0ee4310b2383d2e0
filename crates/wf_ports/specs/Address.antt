-- The addresses of a process's ports, by the options that name them.
use Rattle.std.specs.Prelude.{◌≡◌, Option, Some, None}
use Rattle.std.specs.declared.net.socket_addr.SocketAddr.{SocketAddr}
use Rattle.wf_address.specs.declared.address_option.AddressOption.{AddressOption}
use Rattle.wf_address.specs.declared.address_option.AddressOption.TheVariants as options
use Rattle.wf_ports.specs.declared.address.PortAddresses.{PortAddresses}
use Rattle.wf_ports.specs.declared.address.TakenAddress.{TakenAddress}

-- the address of an option, if it is of a port and has one
abbrev pub address_of : PortAddresses → AddressOption → Option SocketAddr
address_of addresses options.Http = Some addresses.http
address_of addresses options.Listen = None
address_of addresses options.Admin = addresses.admin
address_of addresses options.Readers = addresses.readers

-- the address of that option is taken, or not permitted
pub record IsAddressTaken (option : AddressOption) (address : Option SocketAddr) (taken : TakenAddress) : Type 0 where
  pub of : taken.option ≡ option
  pub at : address ≡ Some taken.address
