use Rattle.wf_model.proofs.Runs.{two_led_asks, four_led_leave, fifth_prepared_leaves, last_leader_proposes}
use Rattle.wf_model.proofs.four_sequences_led.Goals as goal

pub returns : goal.returns
returns c = record { second = two_led_asks; fourth = four_led_leave; fifth = fifth_prepared_leaves; last_round = last_leader_proposes }
