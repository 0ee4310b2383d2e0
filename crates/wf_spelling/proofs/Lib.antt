pub mod ScannedBlock
pub mod ScannedNumber
pub mod ScanSequences
pub mod WriteSequences
