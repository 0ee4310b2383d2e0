-- A reply came, to the question that was open.
use Rattle.std.proofs.Common.{◌≡◌, ◌++◌, ◌∙◌, None, Option, ap, refl, subst, sym}
use Rattle.std.specs.Prelude.{IfSome}
use Rattle.wf_reader.specs.Question.{question_bytes}
use Rattle.wf_replica_command.proofs.Conversing.{asked_next, read_next, replied_next}
use Rattle.wf_reader.specs.declared.reply.Reply.{Reply}
use Rattle.wf_replica_command.specs.Conversation.{IsOneReply, asked_bytes, bytes_taken, part_asked, part_written, replied_bytes}
use Rattle.wf_replica_command.specs.declared.open_question.OpenQuestion.{OpenQuestion}
use Rattle.wf_replica_command.proofs.source_connection.SourceConnection.on_ready.Goals as goal

pub invariant_of-source : goal.invariant_of-source
invariant_of-source g c = record {
  asked = asked_next (g.C.Connection.sent c.converse.new.connection) c.args.self.replied.items c.and-replied.result.items c.converse.new.asked None c.question-question.result c.in-Ok-Some.reply
      (c.in-Ok-Some.ensures.sent (asked_bytes c.args.self.replied.items) (c.args.self.asked ∙ ap (λ (o : Option OpenQuestion). asked_bytes c.args.self.replied.items ++ part_asked o) c.in-Some.is))
      (subst (λ (x : Option Reply). IfSome x (λ reply. part_written c.converse.new.asked ≡ question_bytes c.converse.new.asked.question)) c.in-Ok-Some.field-0-is c.in-Ok-Some.ensures.written
      ∙ ap question_bytes (sym c.question-question.ensures.value)) c.and-replied.ensures refl;
  received = replied_next (g.C.Connection.came c.converse.new.connection) c.converse.new.came.items c.args.self.replied.items c.and-replied.result.items c.question-question.result c.in-Ok-Some.reply
      (c.in-Ok-Some.ensures.received (replied_bytes c.args.self.replied.items) c.args.self.received ∙ ap (λ (x : Option Reply). replied_bytes c.args.self.replied.items ++ (bytes_taken x ++ c.converse.new.came.items)) c.in-Ok-Some.field-0-is) c.and-replied.ensures;
  read = read_next c.args.self.replied.items c.and-replied.result.items c.question-question.result c.in-Ok-Some.reply c.args.self.read c.question-question.ensures.question
      (subst (λ (x : Option Reply). IfSome x IsOneReply) c.in-Ok-Some.field-0-is c.in-Ok-Some.ensures.one) c.and-replied.ensures;
}

pub returns-in-Ok-Some-clause-reply : goal.returns-in-Ok-Some-clause-reply
returns-in-Ok-Some-clause-reply g c =
    ((c.in-Some.asked, c.in-Some.is, sym (c.question-question.ensures.value ∙ c.in-Ok-Some.ensures.question)), refl)
