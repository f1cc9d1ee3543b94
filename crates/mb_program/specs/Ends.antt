-- How a run may end, each end with its cause.
use Rattle.std.specs.Prelude.{◌≡◌, ◌⊎◌, ℕ, [], Option, Some, None, Ok}
use Rattle.mb_words.specs.Words.{Text, Asked}
use Rattle.def_runs.specs.Native.{NativeState}
use Rattle.mb_files.specs.Reading.{Reading}
use Rattle.mb_files.specs.Comes.{Comes}
use Rattle.mb_files.specs.Reads.{IsUnread}
use Rattle.mb_files.specs.Shelves.{ShelfSeen}
use Rattle.mb_files.specs.declared.fault.FileFault.TheVariants as fault
use Rattle.mb_program.specs.Answers.{Answer, Shown, shows, oversizes, answer_to}
use Rattle.mb_program.specs.Around.{Around, SinkSeen, Gains, GainsPart}
use Rattle.mb_program.specs.Direct.{IsCounted}
use Rattle.mb_ends.specs.Lines.{counts_lines}
use Rattle.mb_ends.specs.declared.end.End.{End}
use Rattle.mb_ends.specs.declared.end.End.TheVariants.{Done, Counts, Differs, Words, Refused, Oversize, Unread, Output, Memory}

-- a run ends while it reads
abbrev pub EndsAt : {A : Type 0} → Reading A → ShelfSeen → ShelfSeen → End → Type 0
EndsAt reading before after (Refused name why) = IsUnread reading before after (fault.Refused name why)
EndsAt reading before after (Unread name) = IsUnread reading before after (fault.Unread name)
EndsAt reading before after Memory = IsUnread reading before after fault.Memory
EndsAt reading before after _ = ⊥

-- nothing was put on out, and nothing was counted
abbrev pub IsIdle : SinkSeen → SinkSeen → NativeState → NativeState → Type 0
IsIdle out out_after native native_after = (out_after ≡ out) × (native_after ≡ native)

-- What is shown was put on out, with what is counted of its guests; it has this status, and these lines are said.
pub record IsShown (shown : Shown) (status : ℕ) (lines : Text) (out out_after : SinkSeen)
    (native native_after : NativeState) : Type 0 where
  pub gained : Gains out out_after shown.text
  pub status_is : shown.status ≡ status
  pub lines_are : shown.lines ≡ lines
  pub counted : IsCounted shown.steps native native_after

-- How an answer is given: its text is put on out, or a first part of it; or memory runs out before that.
abbrev pub IsGiven : Answer → SinkSeen → SinkSeen → NativeState → NativeState → End → Type 0
IsGiven (shows shown) out out_after native native_after Done = IsShown shown 0 [] out out_after native native_after
IsGiven (shows shown) out out_after native native_after (Counts host) =
    IsShown shown 0 (counts_lines host) out out_after native native_after
IsGiven (shows shown) out out_after native native_after Differs = IsShown shown 1 [] out out_after native native_after
IsGiven (shows shown) out out_after native native_after Output = GainsPart out out_after shown.text
IsGiven (oversizes n h) out out_after native native_after (Oversize need have) =
    (need ≡ n) × (have ≡ h) × IsIdle out out_after native native_after
IsGiven answer out out_after native native_after Memory = IsIdle out out_after native native_after
IsGiven _ out out_after native native_after _ = ⊥

-- the same, and nothing is counted
abbrev pub IsGivenUncounted : Answer → SinkSeen → SinkSeen → End → Type 0
IsGivenUncounted answer out out_after end = (native : NativeState) → IsGiven answer out out_after native native end

-- A command has come to its answer, and gives it.
pub record AnswerGiven (reading : Reading Answer) (a : Around) (end : End) : Type 0 where
  pub stayed : a.shelf_after ≡ a.shelf
  pub answer : Answer
  pub comes : Comes a.shelf.told reading (Ok answer)
  pub given : IsGiven answer a.out a.out_after a.native a.native_after end

-- A command ends while it reads, and has done nothing, or by its answer.
abbrev pub CommandEnds : Reading Answer → Around → End → Type 0
CommandEnds reading a end =
    (EndsAt reading a.shelf a.shelf_after end × IsIdle a.out a.out_after a.native a.native_after)
    ⊎ AnswerGiven reading a end

-- where the words ask for nothing, they are refused, or memory ran out before that was known
abbrev pub WordsEnd : Around → End → Type 0
WordsEnd a Words = (a.shelf_after ≡ a.shelf) × IsIdle a.out a.out_after a.native a.native_after
WordsEnd a Memory = (a.shelf_after ≡ a.shelf) × IsIdle a.out a.out_after a.native a.native_after
WordsEnd a _ = ⊥

abbrev pub Ends : Option Asked → Around → End → Type 0
Ends None a end = WordsEnd a end
Ends (Some asked) a end = CommandEnds (answer_to asked) a end
