-- What each answer says, as a reply: "The definition gives this paper's number and values for each of the enum's cases."
use Rattle.std.specs.Prelude.{Result, Ok, Err}
use Rattle.input.specs.declared.Refusal.{Refusal}
use Rattle.base.specs.Base.{Next, again, done}
use Rattle.parser.specs.declared.Marker.{Marker}
use Rattle.parser.specs.declared.CompletedMarker.{CompletedMarker}
use Rattle.parser.specs.Calls.{Opened, Closed, Moved}
use Rattle.parser.specs.Prog.{Reply, fine, bad}
use Rattle.atoms.specs.declared.Turn.{Turn}
use Rattle.atoms.specs.declared.Turn.TheVariants as turn

-- an answer with a marker is a reply itself
abbrev pub opened_reply : Opened → Reply Marker
opened_reply x = x

abbrev pub closed_reply : Closed → Reply CompletedMarker
closed_reply x = x

unfoldable pub moved_reply : Moved → Reply (Unit {0})
moved_reply (Ok s) = fine s tt
moved_reply (Err r) = bad r

unfoldable pub turn_reply : Result Turn Refusal → Reply (Next CompletedMarker CompletedMarker)
turn_reply (Ok (turn.Again s m)) = fine s (again m)
turn_reply (Ok (turn.Done s m)) = fine s (done m)
turn_reply (Err r) = bad r

-- a node that is ended, where only the state matters; a node as a turn of a loop
unfoldable pub ended_of : Closed → Moved
ended_of (Ok (s, m)) = Ok s
ended_of (Err r) = Err r

unfoldable pub turn_of : Closed → Result Turn Refusal
turn_of (Ok (s, m)) = Ok (turn.Again s m)
turn_of (Err r) = Err r
