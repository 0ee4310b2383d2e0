pub mod FolderErrors
