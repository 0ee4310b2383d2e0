use Rattle.std.proofs.Common.{length, ap, arith}
use Rattle.wf_readers_port.proofs.Exchanged.{asked_one, replied_one}
use Rattle.wf_readers_port.proofs.reader.Reader.reply_with.Goals as goal

pub invariant_of-self : goal.invariant_of-self
invariant_of-self g c = record {
  asked = asked_one (g.C.Connection.came c.args.self.now.connection) c.new.result.items c.args.self.now.question c.args.bytes c.args.self.now.exchanges.items c.and-self.result.items
      c.and-self.ensures c.new.ensures.items c.args.self.now.asked;
  replied = replied_one (g.C.Connection.sent c.args.self.now.connection) c.args.self.now.question c.args.bytes c.args.self.now.reply c.args.reply c.args.self.now.exchanges.items c.and-self.result.items
      c.and-self.ensures c.requires.taken c.requires.whole c.args.self.now.replied;
  short = omega (arith, ap length c.new.ensures.items);
}
