use Rattle.wf_address.specs.Address.{texts}
use Rattle.wf_address.proofs.AddressList.{bad_if_none, text_at}
use Rattle.wf_address.proofs.list.address_at.Goals as goal

pub returns-clause-none : goal.returns-clause-none
returns-clause-none c = bad_if_none c.address.result (texts c.args.words.now) c.args.index _ (text_at c.args.words.now c.args.index _ c.requires) c.address.ensures.none
