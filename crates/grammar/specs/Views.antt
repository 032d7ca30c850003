-- What each answer says, as a reply: "The definition gives this paper's number and values for each of the enum's cases."
use Rattle.std.specs.Prelude.{Result, Ok, Err, Bool, false}
use Rattle.base.specs.Base.{Next, again, done}
use Rattle.parser.specs.declared.CompletedMarker.{CompletedMarker}
use Rattle.parser.specs.Calls.{Closed}
use Rattle.input.specs.declared.Refusal.{Refusal}
use Rattle.parser.specs.Prog.{Reply, fine, bad, Perhaps}
use Rattle.grammar.specs.declared.Postfix.{Postfix}
use Rattle.grammar.specs.declared.Postfix.TheVariants as postfix
use Rattle.grammar.specs.declared.Args.{Args}
use Rattle.grammar.specs.declared.Args.TheVariants as args

-- a reading is a reply itself
abbrev pub reading_reply : Reply (Perhaps CompletedMarker) → Reply (Perhaps CompletedMarker)
reading_reply x = x

unfoldable pub postfix_reply : Result Postfix Refusal → Reply (Next (CompletedMarker × Bool) CompletedMarker)
postfix_reply (Ok (postfix.Again s m recovery)) = fine s (again (m, recovery))
postfix_reply (Ok (postfix.Done s m)) = fine s (done m)
postfix_reply (Err r) = bad r

unfoldable pub args_reply : Result Args Refusal → Reply (Next (Unit {0}) (Unit {0}))
args_reply (Ok (args.More s)) = fine s (again tt)
args_reply (Ok (args.End s)) = fine s (done tt)
args_reply (Err r) = bad r

-- a node as a turn of the postfix forms, with the dot behind it still to be read
unfoldable pub postfix_of : Closed → Result Postfix Refusal
postfix_of (Ok (s, m)) = Ok (postfix.Again s m false)
postfix_of (Err r) = Err r
