-- Codes of the lines of a journal, by which they are read.
use Rattle.std.specs.Prelude.{ℕ, zero, suc, List, [], ◌∷◌, codes, Option, Some, None}
use Rattle.trick_codes.specs.Code.{Code, Either, choice, free, literal, number, one_of, read_as, sequence}
use Rattle.trick_model.specs.Journal.{Noted}
use Rattle.trick_model.specs.Time.{last_turn}
use Rattle.trick_model.specs.declared.entry.Cause.{Cause}
use Rattle.trick_model.specs.declared.entry.Cause.TheVariants as cause
use Rattle.trick_model.specs.declared.entry.Entry.{Entry}
use Rattle.trick_model.specs.declared.entry.Entry.TheVariants.{Join, Said, Leave, Publish}

-- ---- parts of entries; an entry that has not the part has this one

abbrev pub session_of : Entry → ℕ
session_of (Join session) = session
session_of (Said session line) = session
session_of (Leave session cause) = session
session_of (Publish thread) = 0

abbrev pub line_of : Entry → List ℕ
line_of (Join session) = []
line_of (Said session line) = line
line_of (Leave session cause) = []
line_of (Publish thread) = []

abbrev pub cause_of : Entry → Cause
cause_of (Join session) = cause.Exit
cause_of (Said session line) = cause.Exit
cause_of (Leave session cause) = cause
cause_of (Publish thread) = cause.Exit

abbrev pub thread_of : Entry → ℕ
thread_of (Join session) = 0
thread_of (Said session line) = 0
thread_of (Leave session cause) = 0
thread_of (Publish thread) = thread

-- ---- words

-- the causes, each with the line feed
abbrev pub cause_words : List (List ℕ)
cause_words =
    codes "Exit\n" ∷ codes "HungUp\n" ∷ codes "LinkFault\n" ∷ codes "LongLine\n" ∷ codes "Slow\n" ∷ codes "NoThread\n"
    ∷ codes "OutOfMemory\n" ∷ []

abbrev pub cause_at : ℕ → Cause
cause_at zero = cause.Exit
cause_at (suc zero) = cause.HungUp
cause_at (suc (suc zero)) = cause.LinkFault
cause_at (suc (suc (suc zero))) = cause.LongLine
cause_at (suc (suc (suc (suc zero)))) = cause.Slow
cause_at (suc (suc (suc (suc (suc zero))))) = cause.NoThread
cause_at (suc (suc (suc (suc (suc (suc k)))))) = cause.OutOfMemory

abbrev pub cause_place : Cause → ℕ
cause_place cause.Exit = 0
cause_place cause.HungUp = 1
cause_place cause.LinkFault = 2
cause_place cause.LongLine = 3
cause_place cause.Slow = 4
cause_place cause.NoThread = 5
cause_place cause.OutOfMemory = 6

-- what an entry is, each with a space after it
abbrev pub entry_words : List (List ℕ)
entry_words = codes "join " ∷ codes "cmd " ∷ codes "leave " ∷ codes "publish " ∷ []

abbrev pub entry_place : Entry → ℕ
entry_place (Join session) = 0
entry_place (Said session line) = 1
entry_place (Leave session cause) = 2
entry_place (Publish thread) = 3

-- ---- codes

abbrev pub session_code : (end : ℕ) → Code ℕ
session_code end = number 1 4294967295 end

unfoldable pub join_code : Code Entry
join_code = read_as (λ session. Join session) session_of (session_code 10)

unfoldable pub said_code : Code Entry
said_code =
    read_as (λ v. Said v.0 v.1) (λ e. (session_of e, line_of e)) (sequence (session_code 32) (λ session. free 4096 10))

unfoldable pub leave_code : Code Entry
leave_code =
    read_as (λ v. Leave v.0 (cause_at v.1)) (λ e. (session_of e, cause_place (cause_of e)))
    (sequence (session_code 32) (λ session. one_of cause_words))

unfoldable pub publish_code : Code Entry
publish_code = read_as (λ thread. Publish thread) thread_of (number 1 15 10)

-- what stands after the word of an entry
abbrev pub detail_code : ℕ → Code Entry
detail_code zero = join_code
detail_code (suc zero) = said_code
detail_code (suc (suc zero)) = leave_code
detail_code (suc (suc (suc k))) = publish_code

unfoldable pub entry_code : Code Entry
entry_code = read_as (λ v. v.1) (λ e. (entry_place e, e)) (sequence (one_of entry_words) detail_code)

unfoldable pub noted_code : Code Noted
noted_code = sequence (number 0 last_turn 32) (λ turn. entry_code)

-- a word and a turn
abbrev pub turn_code : List ℕ → Code ℕ
turn_code word = read_as (λ v. v.1) (λ turn. (tt, turn)) (sequence (literal word) (λ u. number 0 last_turn 10))

-- the line of the end, which begins with an `e`, or of an entry
unfoldable pub row_code : Code (Either ℕ Noted)
row_code = choice 101 (turn_code (codes "end ")) noted_code
