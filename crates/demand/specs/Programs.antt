-- Programs of machine calls, as the rules of the grammar are: each of them is a run of calls.
use Rattle.std.specs.Prelude.{Ok, ◌≡◌, true, List, ℕ}
use Rattle.input.specs.Input.{Tokens, tokens_of}
use Rattle.event.specs.Event.{fresh}
use Rattle.event.specs.declared.State.{State}
use Rattle.parser.specs.Prog.{Prog, fine, run}
use Rattle.process.specs.Process.{sound_of}
use Rattle.demand.specs.Runs.{Call, run_of}

-- a run of calls over ts and ev that stands at s and e
pub record Run (ts : Tokens) (ev : List ℕ) (s : State) (e : List ℕ) : Type 0 where
  pub calls : List Call
  pub state_is : (run_of ts ev calls).state ≡ s
  pub events_are : (run_of ts ev calls).events ≡ e

-- over tokens that pass the checks, a program that gives an answer from the fresh state stands where a run of the public calls does
abbrev pub ProgramsAreRuns : Type 1
ProgramsAreRuns = (A : Type 0) (ts : Tokens) (ev : List ℕ) → tokens_of ts ≡ Ok tt → (p : Prog A) (s : State) (a : A) (e : List ℕ) → run ts p fresh ev ≡ (fine s a, e) → Run ts ev s e

-- so the events that it leaves are sound
abbrev pub ProgramsAreSound : Type 1
ProgramsAreSound = (A : Type 0) (ts : Tokens) (ev : List ℕ) → tokens_of ts ≡ Ok tt → (p : Prog A) (s : State) (a : A) (e : List ℕ) → run ts p fresh ev ≡ (fine s a, e) → sound_of s e ≡ true
