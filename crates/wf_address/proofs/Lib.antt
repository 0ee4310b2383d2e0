pub mod AddressList
