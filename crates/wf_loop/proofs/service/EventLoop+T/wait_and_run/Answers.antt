use Rattle.wf_loop.proofs.service.EventLoop+T.wait_and_run.Goals as goal

pub returns-clause-outvoted : goal.returns-clause-outvoted
returns-clause-outvoted g c = λ is. let asks = c.run_once.ensures.outvoted is in record { given = asks.given; answered = asks.answered }

pub returns-clause-joins : goal.returns-clause-joins
returns-clause-joins g c = λ is. let learns = c.run_once.ensures.joins is in record { joins = learns.joins; learnt = learns.learnt; answered = learns.answered }
