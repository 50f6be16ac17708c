-- What is stated, written and read.
use Rattle.std.proofs.Common.{◌≡◌, ℕ, ◌<◌, ◌≤◌, ◌≢◌, ◌==◌, Bool, true, false, cond, List, [], ◌∷◌, ◌++◌, length, map, refl, sym, ap, ◌∙◌}
use Rattle.std.proofs.Common.{arith, append-nil, eqb-true, true≢false}
use Rattle.std.specs.Prelude.{codes, decimal, Some, None, Ok, if◌then◌else◌}
use Rattle.std.specs.List.{join_with_byte}
use Rattle.std.proofs.lemmas.Bool.{eqb-false}
use Rattle.ct_names.specs.declared.command.Command.{Command}
use Rattle.ct_names.specs.declared.command.Command.TheVariants.{Set, Add, Copy}
use Rattle.ct_grammar.specs.declared.act.Act.{Act}
use Rattle.ct_grammar.specs.declared.act.Act.TheVariants.{Receive}
use Rattle.ct_grammar.specs.declared.carried.Carried.TheVariants.{Data}
use Rattle.ct_grammar.specs.declared.claim.Name.{Name}
use Rattle.ct_grammar.specs.declared.pick.Pick.TheVariants.{Serial, First}
use Rattle.ct_grammar.specs.declared.play.Play.TheVariants.{Stated}
use Rattle.ct_grammar.specs.declared.reports.listed.Listed.{Listed}
use Rattle.ct_grammar.specs.declared.statement.Statement.{Statement}
use Rattle.ct_grammar.specs.declared.statement.Statement.TheVariants as says
use Rattle.ct_grammar.specs.declared.who.Who.{Who}
use Rattle.ct_grammar.specs.Leading.{over}
use Rattle.ct_grammar.specs.Names.{value_of, more_first, shortened, listed_in, listed_first}
use Rattle.ct_grammar.specs.Numbers.{max_u32}
use Rattle.ct_grammar.specs.Reports.{ts_of}
use Rattle.ct_grammar.specs.Stated.{says_value, with_ts, value_stated, lone_value, lone_command, carried_statement, pick_statement}
use Rattle.ct_grammar.specs.Stated.{statement, taken}
use Rattle.ct_grammar.specs.Words.{Word, begins_with}
use Rattle.ct_print.specs.Reports.{name_text, value_text}
use Rattle.ct_print.specs.Statements.{listed_text, statement_text}
use Rattle.ct_print.specs.Writable.{NamesFit, MoreFits, CommandFits, ListedFits, StatementFits, IsValue, IsStatedOf}
use Rattle.ct_print.proofs.ActsRead.{alone_back, command_back, from_first}
use Rattle.ct_print.proofs.Glued.{value_stays, names_stay}
use Rattle.ct_print.proofs.NoAnd.{whole_says}
use Rattle.ct_print.proofs.Numerals.{number_in_back}
use Rattle.ct_print.proofs.Parts.{lacks_parted}
use Rattle.ct_print.proofs.ReportsRead.{names_lack, joined_lacks, within_back, value_letters, value_says, value_back}
use Rattle.ct_print.proofs.Spoken.{command_words, command_says}
use Rattle.ct_print.proofs.TextWords.{Reads, beside, word_before, word_reads}

-- ---- words

-- some messages of a value, and how many more there are
abbrev pub shortened_words : List Name → ℕ → List Word
shortened_words names more = (123 ∷ join_with_byte 44 (map name_text names)) ∷ codes "and" ∷ decimal more ∷ codes "more}" ∷ []

abbrev pub listed_words : Listed → List Word
listed_words l = if l.more == 0 then value_text l.names ∷ [] else shortened_words l.names l.more

abbrev pub statement_words : Statement → List Word
statement_words (says.Command command) = command_words command
statement_words (says.Value listed) = listed_words listed
statement_words (says.Estimate listed ts) = listed_words listed ++ (codes "ts" ∷ decimal ts ∷ [])

more_small : (names : List Name) (more : ℕ) → MoreFits names more → more ≤ max_u32
more_small [] more h = omega (arith, h)
more_small (name ∷ names) more h = h

shortened_reads : (names : List Name) (more : ℕ) → NamesFit names → more ≤ max_u32 →
    Reads ((123 ∷ join_with_byte 44 (map name_text names)) ++ 32 ∷ (codes "and" ++ 32 ∷ (decimal more ++ 32 ∷ codes "more}")))
    (shortened_words names more)
shortened_reads names more h k =
    word_before (123 ∷ join_with_byte 44 (map name_text names)) _ _ (rw (value_letters names h) refl)
    (word_before (codes "and") _ _ refl
    (beside (decimal more) (codes "more}") (decimal more ∷ []) (codes "more}" ∷ []) (whole_says more k).reads
    (word_reads (codes "more}") refl)))

listed_reads : (l : Listed) → ListedFits l → Reads (listed_text l) (listed_words l)
unfolding listed_text
listed_reads l h = go (l.more == 0)
  where
    text : List ℕ
    text = (123 ∷ join_with_byte 44 (map name_text l.names)) ++ 32 ∷ (codes "and" ++ 32 ∷ (decimal l.more ++ 32 ∷ codes "more}"))

    go : (b : Bool) → Reads (cond b (value_text l.names) text) (cond b (value_text l.names ∷ []) (shortened_words l.names l.more))
    go true = (value_says l.names h.0).reads
    go false = shortened_reads l.names l.more h.0 (more_small l.names l.more h.1)

pub statement_reads : (said : Statement) → StatementFits said → Reads (statement_text said) (statement_words said)
unfolding statement_text
statement_reads (says.Command command) h = (command_says command h).reads
statement_reads (says.Value listed) h = listed_reads listed h
statement_reads (says.Estimate listed ts) h =
    beside (listed_text listed) _ (listed_words listed) (codes "ts" ∷ decimal ts ∷ []) (listed_reads listed h.0)
    (word_before (codes "ts") _ _ refl (whole_says ts h.1).reads)

-- ---- values

-- all messages of a value
listed_all : (names : List Name) (words : List Word) → NamesFit names →
    listed_first (value_text names) words ≡ Some (record { names = names; more = 0 }, words)
unfolding listed_first listed_in
listed_all names words h = rw (value_stays names words, value_back names h) refl

-- with no brace behind it, it is not all of a value
no_value : (names : List Name) → NamesFit names → value_of (123 ∷ join_with_byte 44 (map name_text names)) ≡ None
unfolding value_of
no_value names h =
    rw (lacks_parted 125 (join_with_byte 44 (map name_text names))
    (joined_lacks 125 (map name_text names) refl (names_lack 125 names refl refl h))) refl

listed_some : (name : Name) (names : List Name) (more : ℕ) (words : List Word) → NamesFit (name ∷ names) → more ≢ 0 → more ≤ max_u32 →
    listed_first (123 ∷ join_with_byte 44 (map name_text (name ∷ names))) (codes "and" ∷ decimal more ∷ codes "more}" ∷ words)
    ≡ Some (record { names = name ∷ names; more = more }, words)
unfolding listed_first listed_in shortened more_first
listed_some name names more words h some small =
    rw (
      names_stay name names (codes "and" ∷ decimal more ∷ codes "more}" ∷ words) h,
      no_value (name ∷ names) h,
      number_in_back 1 max_u32 more (omega arith) (omega (arith, some)) small,
      within_back name names h,
    ) refl

some_stated : (what : _) (names : List Name) (more : ℕ) (words : List Word) → NamesFit names → MoreFits names more → more ≢ 0 →
    lone_value what (shortened_words names more ++ words) ≡ with_ts (record { names = names; more = more }) words
unfolding lone_value value_stated
some_stated what [] more words h k some = absurd (some k)
some_stated what (name ∷ names) more words h k some = rw (listed_some name names more words h some k) refl

begins_value : (names : List Name) → begins_with 123 (value_text names) ≡ true
unfolding value_text
begins_value names = refl

all_stated : (what : _) (names : List Name) (words : List Word) → NamesFit names →
    lone_value what (value_text names ∷ words) ≡ with_ts (record { names = names; more = 0 }) words
unfolding lone_value value_stated
all_stated what names words h = rw (begins_value names, listed_all names words h) refl

listed_stated : (what : _) (l : Listed) (words : List Word) → ListedFits l → lone_value what (listed_words l ++ words) ≡ with_ts l words
listed_stated what l words h = go (l.more == 0) refl
  where
    go : (b : Bool) → (l.more == 0) ≡ b →
        lone_value what (cond b (value_text l.names ∷ []) (shortened_words l.names l.more) ++ words) ≡ with_ts l words
    go true e =
        all_stated what l.names words h.0
        ∙ ap (λ (n : ℕ). with_ts (record { names = l.names; more = n }) words) (sym (eqb-true l.more 0 e))
    go false e = some_stated what l.names l.more words h.0 h.1 (eqb-false l.more 0 e)

value_back_alone : (what : _) (said : Statement) → StatementFits said → IsValue said → lone_value what (statement_words said) ≡ Ok said
unfolding ts_of
value_back_alone what (says.Command command) h k = absurd k
value_back_alone what (says.Value l) h k = ap (lone_value what) (sym (append-nil (listed_words l))) ∙ listed_stated what l [] h
value_back_alone what (says.Estimate l ts) h k =
    listed_stated what l (codes "ts" ∷ decimal ts ∷ []) h.0 ∙ rw (alone_back ts _ h.1) refl

-- ---- commands

command_back_alone : (what : _) (command : Command) → CommandFits command →
    lone_command what (command_words command) ≡ Ok (says.Command command)
unfolding lone_command over
command_back_alone what command h =
    ap (lone_command what) (sym (append-nil (command_words command))) ∙ rw (command_back command what [] h) refl

-- ---- first words

listed_begins : (l : Listed) (words : List Word) → says_value (listed_words l ++ words) ≡ true
unfolding says_value
listed_begins l words = go (l.more == 0)
  where
    go : (b : Bool) → says_value (cond b (value_text l.names ∷ []) (shortened_words l.names l.more) ++ words) ≡ true
    go true = begins_value l.names
    go false = refl

value_begins : (said : Statement) → IsValue said → says_value (statement_words said) ≡ true
value_begins (says.Command command) k = absurd k
value_begins (says.Value l) k = ap says_value (sym (append-nil (listed_words l))) ∙ listed_begins l []
value_begins (says.Estimate l ts) k = listed_begins l (codes "ts" ∷ decimal ts ∷ [])

command_begins : (command : Command) → says_value (command_words command) ≡ false
unfolding says_value
command_begins (Set r v) = refl
command_begins (Add r v) = refl
command_begins (Copy a b) = refl

brace_no_sender : (words : List Word) → says_value words ≡ true → from_first words ≡ false
unfolding says_value
brace_no_sender [] h = refl
brace_no_sender ([] ∷ words) h = refl
brace_no_sender ((c ∷ cs) ∷ words) h = rw (eqb-true c 123 h) refl

-- nothing that is stated begins with `from`
pub no_sender : (said : Statement) → from_first (statement_words said) ≡ false
no_sender (says.Command (Set r v)) = refl
no_sender (says.Command (Add r v)) = refl
no_sender (says.Command (Copy a b)) = refl
no_sender (says.Value l) = brace_no_sender (listed_words l) (value_begins (says.Value l) tt)
no_sender (says.Estimate l ts) = brace_no_sender (statement_words (says.Estimate l ts)) (value_begins (says.Estimate l ts) tt)

some_words : (words : List Word) → says_value words ≡ true → 0 < length words
unfolding says_value
some_words [] h = absurd (true≢false (sym h))
some_words (word ∷ words) h = omega arith

says_some : (said : Statement) → 0 < length (statement_words said)
says_some (says.Command (Set r v)) = omega arith
says_some (says.Command (Add r v)) = omega arith
says_some (says.Command (Copy a b)) = omega arith
says_some (says.Value l) = some_words (listed_words l) (value_begins (says.Value l) tt)
says_some (says.Estimate l ts) = some_words (statement_words (says.Estimate l ts)) (value_begins (says.Estimate l ts) tt)

-- ---- statements

serial_back : (n : ℕ) (said : Statement) → StatementFits said → pick_statement (Serial n) (statement_words said) ≡ Ok said
unfolding pick_statement
serial_back n (says.Command command) h = rw (command_begins command) (command_back_alone _ command h)
serial_back n (says.Value l) h = rw (value_begins (says.Value l) tt) (value_back_alone _ (says.Value l) h tt)
serial_back n (says.Estimate l ts) h = rw (value_begins (says.Estimate l ts) tt) (value_back_alone _ (says.Estimate l ts) h tt)

statement_back : (act : Act) (said : Statement) → StatementFits said → IsStatedOf act said → statement act (statement_words said) ≡ Ok said
unfolding statement pick_statement carried_statement
statement_back (Receive (Serial n)) said h k = serial_back n said h
statement_back (Receive (First (Data o n) from)) (says.Command command) h k = command_back_alone _ command h
statement_back _ said h k = search value_back_alone

-- the act, with what is stated behind it
pub taken_back : (who : Who) (act : Act) (said : Statement) → StatementFits said → IsStatedOf act said →
    taken who act (statement_words said) ≡ Ok (Stated who act said)
unfolding taken
taken_back who act said h k = go (statement_words said) (says_some said) (statement_back act said h k)
  where
    go : (words : List Word) → 0 < length words → statement act words ≡ Ok said → taken who act words ≡ Ok (Stated who act said)
    go [] some e = absurd (omega (arith, some))
    go (word ∷ words) some e = rw e refl
