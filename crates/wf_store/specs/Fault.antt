-- Which errors a call of a folder has.
use Rattle.std.specs.Prelude.{◌≡◌, ⊤}
use Rattle.wf_store.specs.declared.file_name.FileName.{FileName}
use Rattle.wf_store.specs.declared.fault.FolderFault.{FolderFault}
use Rattle.wf_store.specs.declared.fault.FolderFault.TheVariants.{NoFolder, Held, Unmade, Unlisted, Unread, Unopened, Unwritten, NoRandomBits, Memory}

-- why a folder isn't made
abbrev pub IsWhyUnmade : FolderFault → Type 0
IsWhyUnmade (NoFolder kind) = ⊤
IsWhyUnmade (Unmade kind) = ⊤
IsWhyUnmade fault = ⊥

-- why it isn't locked
abbrev pub IsWhyUnlocked : FolderFault → Type 0
IsWhyUnlocked (NoFolder kind) = ⊤
IsWhyUnlocked Held = ⊤
IsWhyUnlocked fault = ⊥

-- why it isn't compared with the one that is locked
abbrev pub IsNoFolder : FolderFault → Type 0
IsNoFolder (NoFolder kind) = ⊤
IsNoFolder fault = ⊥

-- why its names aren't counted
abbrev pub IsWhyUnlisted : FolderFault → Type 0
IsWhyUnlisted (NoFolder kind) = ⊤
IsWhyUnlisted (Unlisted kind) = ⊤
IsWhyUnlisted fault = ⊥

-- why no bits are drawn
abbrev pub IsWhyUndrawn : FolderFault → Type 0
IsWhyUndrawn (NoRandomBits kind) = ⊤
IsWhyUndrawn fault = ⊥

-- why a file isn't read
abbrev pub IsWhyUnread : FileName → FolderFault → Type 0
IsWhyUnread file (Unread named kind) = named ≡ file
IsWhyUnread file Memory = ⊤
IsWhyUnread file fault = ⊥

-- why a file isn't opened as a tape
abbrev pub IsWhyUnopened : FileName → FolderFault → Type 0
IsWhyUnopened file (Unopened named) = named ≡ file
IsWhyUnopened file Memory = ⊤
IsWhyUnopened file fault = ⊥

-- why a file isn't replaced
abbrev pub IsWhyUnwritten : FileName → FolderFault → Type 0
IsWhyUnwritten file (Unwritten named kind) = named ≡ file
IsWhyUnwritten file Memory = ⊤
IsWhyUnwritten file fault = ⊥
