pub mod Validated
pub mod Lists
pub mod Moments
pub mod CrashImages
pub mod Texts
pub mod Written
