pub mod OpenVotes
pub mod Acceptor
pub mod Prepared
pub mod AcceptorAnswer
pub mod Comparison
