use Rattle.std.proofs.Common.{◌≡◌, map, take}
use Rattle.ct_print.specs.Writable.{NamesFit}
use Rattle.ct_play.specs.Facts.{the_name}
use Rattle.ct_listing.proofs.closing.names_of.Given as goal

-- the names of the messages so far, each of which is one of its types
abbrev pub invariant-loop-message : goal.invariant-loop-message
invariant-loop-message l = (l.names.items ≡ map the_name (take l.message-index l.messages)) × NamesFit l.names.items
