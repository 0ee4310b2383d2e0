-- A metric in Prometheus' text form: a line of what it tells, a line of its type, and its samples,
-- each with a name and a number. Each definition is a text, and after it what is appended.
use Rattle.std.specs.Prelude.{ℕ, List, ◌++◌, ◌-◌, ◌/◌, ◌%◌, [], Option, Some, None, codes, decimal, false}
use Rattle.std.specs.Fmt.{padded_integral, format_spec}
use Rattle.wf_operator.specs.declared.metrics.MetricType.{MetricType}
use Rattle.wf_operator.specs.declared.metrics.MetricType.TheVariants.{Gauge, Counter}

-- what a metric tells, and its type
abbrev pub with_head : List ℕ → List ℕ → List ℕ → MetricType → List ℕ
with_head text name help Gauge = text ++ (codes "# HELP " ++ name ++ codes " " ++ help ++ codes "\n# TYPE " ++ name ++ codes " gauge\n")
with_head text name help Counter = text ++ (codes "# HELP " ++ name ++ codes " " ++ help ++ codes "\n# TYPE " ++ name ++ codes " counter\n")

-- a sample of a whole number
abbrev pub with_sample : List ℕ → List ℕ → ℕ → List ℕ
with_sample text name value = text ++ (name ++ codes " " ++ decimal value ++ codes "\n")

abbrev pub with_gauge : List ℕ → List ℕ → List ℕ → ℕ → List ℕ
with_gauge text name help value = with_sample (with_head text name help Gauge) name value

abbrev pub with_counter : List ℕ → List ℕ → List ℕ → ℕ → List ℕ
with_counter text name help value = with_sample (with_head text name help Counter) name value

-- six digits, with zeros before a number that has fewer
abbrev pub six_digits : ℕ → List ℕ
six_digits number = padded_integral (format_spec 32 0 4 6 18446744073709551615) false [] (decimal number)

-- a counter of microseconds, told in seconds: 1,500,000 of them are 1.500000
abbrev pub with_seconds : List ℕ → List ℕ → List ℕ → ℕ → List ℕ
with_seconds text name help micros =
    with_head text name help Counter ++ (name ++ codes " " ++ decimal (micros / 1000000) ++ codes "." ++ six_digits (micros % 1000000) ++ codes "\n")

-- what a process has of the history, what it heard of, and what is left of the 4,096 sequences
abbrev pub with_sequences : List ℕ → ℕ → ℕ → List ℕ
with_sequences text published heard =
    with_gauge (with_gauge (with_gauge text
    (codes "wfarm_published_sequence") (codes "Last sequence that the process has") published)
    (codes "wfarm_heard_sequence") (codes "Last sequence that the process heard of") heard)
    (codes "wfarm_sequences_left") (codes "Maps that can still be published before the farm is to be started over") (4096 - published)

-- how many connections are open
abbrev pub with_open : List ℕ → ℕ → ℕ → List ℕ
with_open text clients readers =
    with_gauge (with_gauge text
    (codes "wfarm_open_clients") (codes "Connections of clients that are open") clients)
    (codes "wfarm_open_readers") (codes "Connections of readers that are open") readers

-- how long the tape is, if that is known
abbrev pub with_tape_bytes : List ℕ → Option ℕ → List ℕ
with_tape_bytes text (Some length) = with_gauge text (codes "wfarm_tape_bytes") (codes "Length of the tape, in bytes") length
with_tape_bytes text None = text
