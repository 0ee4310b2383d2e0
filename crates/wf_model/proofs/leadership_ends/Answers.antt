use Rattle.wf_model.proofs.Runs.{led_too_low_leaves, led_too_low_stands, led_again_leaves, leader_restarts_asks}
use Rattle.wf_model.proofs.leadership_ends.Goals as goal

pub returns : goal.returns
returns c = record { rejected = led_too_low_leaves; runs = led_too_low_stands; retried = led_again_leaves; stopped = leader_restarts_asks }
