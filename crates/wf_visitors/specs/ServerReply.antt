-- What came of a request.
use Rattle.std.specs.Prelude.{◌≡◌, []}
use Rattle.wf_client.specs.ResponseBuffer.{Outgoing}
use Rattle.wf_visitors.specs.declared.server.ServerReply.{ServerReply}
use Rattle.wf_visitors.specs.declared.server.ServerReply.TheVariants.{Lacks, Nothing, Sent}

-- nothing is written
abbrev pub nothing : Outgoing
nothing = record { bytes = []; done = 0; failures = 0 }

-- a response was written, as that says, or nothing was
abbrev pub IsServerReply : Type 0 → Type 0 → ServerReply → Outgoing → Outgoing → Type 0
IsServerReply stays responds (Lacks count) old new = (new ≡ old) × stays
IsServerReply stays responds Nothing old new = (new ≡ old) × stays
IsServerReply stays responds (Sent status bytes) old new = responds
