pub mod FailureCount
pub mod ProgramEnd
pub mod Program
pub mod Run
pub mod ServeRun
pub mod Contents
pub mod Folder
pub mod FolderEnd
