-- Which source a replica asks, and when. Times are in milliseconds.
use Rattle.std.specs.Prelude.{ℕ, ◌+◌, ◌-◌, ◌%◌, ◌≤◌, ◌<◌, Option, Some, None}
use Rattle.wf_timing.specs.Moment.{later}
use Rattle.wf_replica.specs.declared.questions.Asking.{Asking}

-- from an answer that brought nothing to the next question
abbrev pub rest : ℕ
rest = 50

-- in which a source answers
abbrev pub silence : ℕ
silence = 2000

-- for which one source is asked that brings nothing
abbrev pub turn : ℕ
turn = 1000

-- it asks one of its sources
abbrev pub IsAsking : Asking → Type 0
IsAsking a = a.source < a.count

-- asked at some moment, and silent since then
abbrev pub IsSilentSince : Option ℕ → ℕ → Type 0
IsSilentSince None now = ⊥
IsSilentSince (Some since) now = silence ≤ now - since

abbrev pub IsSourceSilent : Asking → ℕ → Type 0
IsSourceSilent a now = IsSilentSince a.asked now

-- the next source, after a rest
abbrev pub passed_on : ℕ → Asking → Asking
passed_on now a = record a { source = (a.source + 1) % a.count; since = now; asked = None; due = later now rest }

abbrev pub left_of : Option ℕ → ℕ → ℕ → ℕ
left_of None due now = due - now
left_of (Some since) due now = silence - (now - since)

abbrev pub left_until : Asking → ℕ → ℕ
left_until a now = left_of a.asked a.due now
