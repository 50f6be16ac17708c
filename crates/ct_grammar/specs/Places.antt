-- The words for what could stand at a place of a line.
use Rattle.std.specs.Prelude.{Bool, true, false, List, [], ◌∷◌, codes}
use Rattle.ct_grammar.specs.declared.wanted.Wanted.{Wanted}
use Rattle.ct_grammar.specs.declared.wanted.Wanted.TheVariants.{Beginning, GroupSize, CellCount, Bound, Member, Whom, Set, Side, Bar}
use Rattle.ct_grammar.specs.declared.wanted.Wanted.TheVariants.{Doing, Act, Command, Register, Amount, Envelope, Loss, Serial, Message}
use Rattle.ct_grammar.specs.declared.wanted.Wanted.TheVariants.{Place, Rounds, Until, Fact, Phase, Reason, Instance, Round, Waiting}
use Rattle.ct_grammar.specs.declared.wanted.Wanted.TheVariants.{Members, Messages, Decisions, Registers, Estimate, Ts, Nothing}
use Rattle.ct_grammar.specs.declared.wanted.Wanted.TheVariants.{SenderOrStatement, Term, Extent, Count, Chosen, Up, Unseen, Again}
use Rattle.ct_grammar.specs.declared.wanted.Wanted.TheVariants.{Suspecting, Sender, Statement, And, SenderOrAnd, Or}
use Rattle.ct_grammar.specs.Words.{Word}

-- the words that begin lines
unfoldable pub beginnings : List Word
beginnings =
    codes "members" ∷ codes "cells" ∷ codes "batch" ∷ codes "crash" ∷ codes "cut" ∷ codes "heal" ∷ codes "expect" ∷ codes "enabled" ∷
    codes "next" ∷ codes "state" ∷ codes "waiting" ∷ codes "report" ∷ codes "record" ∷ codes "limits" ∷ codes "all" ∷ []

-- what members do
unfoldable pub doings : List Word
doings =
    codes "submit" ∷ codes "receive" ∷ codes "begin" ∷ codes "enter" ∷ codes "choose" ∷ codes "adopt" ∷ codes "suspect" ∷
    codes "conclude" ∷ codes "deliver" ∷ codes "follow" ∷ codes "crash" ∷ codes "postpone" ∷ codes "lose" ∷ codes "repeat" ∷
    codes "turns" ∷ codes "settle" ∷ []

-- the acts
unfoldable pub acts : List Word
acts =
    codes "submit" ∷ codes "receive" ∷ codes "begin" ∷ codes "enter" ∷ codes "choose" ∷ codes "adopt" ∷ codes "suspect" ∷
    codes "conclude" ∷ codes "deliver" ∷ codes "follow" ∷ codes "crash" ∷ codes "postpone" ∷ codes "lose" ∷ codes "repeat" ∷ []

-- the facts, and the words that begin what only goals claim
unfoldable pub facts : List Word
facts =
    codes "up" ∷ codes "crashed" ∷ codes "idle" ∷ codes "instance" ∷ codes "round" ∷ codes "phase" ∷ codes "received" ∷
    codes "decided" ∷ codes "delivered" ∷ codes "table" ∷ codes "estimate" ∷ codes "heard" ∷ codes "acked" ∷ codes "refuses" ∷
    codes "may" ∷ codes "waiting" ∷ codes "waits" ∷ codes "suspects" ∷ codes "follows" ∷ codes "chooses" ∷ codes "concludes" ∷
    codes "settled" ∷ codes "stuck" ∷ []

-- the reasons
unfoldable pub reasons : List Word
reasons =
    codes "NotThere" ∷ codes "Across" ∷ codes "NoSuchMember" ∷ codes "Crashed" ∷ codes "NotWaiting" ∷ codes "Busy" ∷ codes "Nothing" ∷
    codes "Idle" ∷
    codes "WrongPhase" ∷ codes "Decided" ∷ codes "TooFew" ∷ codes "NotLargest" ∷ codes "NoProposal" ∷ codes "HasProposal" ∷
    codes "Undecided" ∷ codes "BadCommand" ∷ codes "NotSent" ∷ codes "StillWaiting" ∷ codes "Full(Submissions)" ∷
    codes "Full(Instances)" ∷ codes "Full(Rounds)" ∷ codes "Full(Envelopes)" ∷ codes "Full(Cells)" ∷ codes "Full(Steps)" ∷ []

-- ---- what is told of a place

-- the names that could stand there, where it is a name that is wanted; whether they are told where none is near; what is said of
-- another word that stands there; what is due there, where the line ends
pub record Told : Type 0 where
  pub names : List Word
  pub is_listed : Bool
  pub denied : Word
  pub due : Word

abbrev pub listed : List Word → Word → Word → Told
listed names denied due = record { names = names; is_listed = true; denied = denied; due = due }

abbrev pub unnamed : Word → Word → Told
unnamed denied due = record { names = []; is_listed = false; denied = denied; due = due }

-- it could be one of these names, which what is said tells
abbrev pub named : List Word → Word → Word → Told
named names denied due = record { names = names; is_listed = false; denied = denied; due = due }

-- the line could end there
abbrev pub optional : List Word → Told
optional names = record { names = names; is_listed = false; denied = codes "is left over"; due = codes "nothing" }

unfoldable pub told_at : Wanted → Told
told_at Beginning = listed beginnings (codes "is neither a member nor a word that begins a line") (codes "a line")
told_at GroupSize = unnamed (codes "is no number from 1 to 16") (codes "a number from 1 to 16")
told_at CellCount = unnamed (codes "is no number from 0 to 1024") (codes "a number from 0 to 1024")
told_at Bound = unnamed (codes "is no number from 1 to 1048560") (codes "a number from 1 to 1048560")
told_at Member = unnamed (codes "is no member") (codes "a member")
told_at Set = unnamed (codes "is no list of members") (codes "a list of members")
told_at Side = unnamed (codes "is no list of members that are named once") (codes "a list of members")
told_at Bar = unnamed (codes "is not |") (codes "|")
told_at Doing = listed doings (codes "is no act") (codes "an act")
told_at Act = listed acts (codes "is no act") (codes "an act")
told_at Command = listed (codes "set" ∷ codes "add" ∷ codes "copy" ∷ []) (codes "is no command") (codes "a command")
told_at Register = unnamed (codes "is no register") (codes "a register")
told_at Amount = unnamed (codes "is no value") (codes "a value")
told_at Envelope =
    listed (codes "data" ∷ codes "est" ∷ codes "prop" ∷ codes "ack" ∷ codes "nack" ∷ codes "dec" ∷ codes "#SERIAL" ∷ [])
    (codes "is no envelope") (codes "an envelope")
told_at Loss =
    listed (codes "from" ∷ codes "data" ∷ codes "est" ∷ codes "prop" ∷ codes "ack" ∷ codes "nack" ∷ codes "dec" ∷ codes "#SERIAL" ∷ [])
    (codes "is no envelope") (codes "an envelope")
told_at Serial = unnamed (codes "is no serial") (codes "a serial")
told_at Message = unnamed (codes "is no message") (codes "a message")
told_at Place = unnamed (codes "is no instance/round") (codes "an instance/round")
told_at Rounds =
    listed (codes "suspecting" ∷ codes "until" ∷ [])
    (codes "is neither a number of rounds nor a word that stands here") (codes "a number of rounds")
told_at Until = unnamed (codes "is not until") (codes "until")
told_at Fact = listed facts (codes "is no fact") (codes "a fact")
told_at Phase = listed (codes "Rest" ∷ codes "Gather" ∷ codes "Wait" ∷ codes "Tally" ∷ []) (codes "is no phase") (codes "a phase")
told_at Reason = listed reasons (codes "is no reason") (codes "a reason")
told_at Instance = named (codes ">=" ∷ []) (codes "is no instance") (codes "an instance")
told_at Round = named (codes ">=" ∷ []) (codes "is no round") (codes "a round")
told_at Waiting = named (codes ">=" ∷ []) (codes "is no number of envelopes") (codes "a number of envelopes")
told_at Members = unnamed (codes "is neither a list of members nor -") (codes "a list of members or -")
told_at Messages = unnamed (codes "is no message, as 1.1") (codes "a message or -")
told_at Decisions = unnamed (codes "is no decision of a later instance, as 1:1.1,2.1") (codes "a decision or -")
told_at Registers = unnamed (codes "is no other register with its value, as 0=7") (codes "a register with its value or -")
told_at Estimate = unnamed (codes "is no value, as {1.1,2.1}") (codes "a value or -")
told_at Ts = unnamed (codes "is not ts") (codes "ts")
told_at Term =
    named (codes "never" ∷ codes "ever" ∷ codes "all" ∷ codes "any" ∷ codes "up" ∷ [])
    (codes "is neither ever, never, a member, a list of members, all, any nor up")
    (codes "ever, never, a member, a list of members, all, any or up")
told_at Whom =
    named (codes "all" ∷ codes "any" ∷ codes "up" ∷ [])
    (codes "is neither a member, a list of members, all, any nor up") (codes "a member, a list of members, all, any or up")
told_at Extent = named (codes ">=" ∷ []) (codes "is neither a number nor >=") (codes "a number or >=")
told_at Count = unnamed (codes "is no number") (codes "a number")
told_at Chosen = listed reasons (codes "is neither a member nor a reason") (codes "a member or a reason")
told_at Up = unnamed (codes "is not up") (codes "up")
told_at Unseen = unnamed (codes "is not unseen") (codes "unseen")
told_at Again = unnamed (codes "is not again") (codes "again")
told_at Nothing = optional []
told_at Suspecting = optional (codes "suspecting" ∷ [])
told_at Sender = optional (codes "from" ∷ [])
told_at Statement = optional (codes "set" ∷ codes "add" ∷ codes "copy" ∷ [])
told_at SenderOrStatement = optional (codes "from" ∷ codes "set" ∷ codes "add" ∷ codes "copy" ∷ [])
told_at And = optional (codes "and" ∷ [])
told_at SenderOrAnd = optional (codes "from" ∷ codes "and" ∷ [])
told_at Or = unnamed (codes "is left over: a goal has no or, only and") (codes "nothing")
