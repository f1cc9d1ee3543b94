-- What a command shows.
use Rattle.std.specs.Prelude.{ℕ, [], Option, None}
use Rattle.mb_words.specs.Words.{Text}
use Rattle.mb_program.specs.Direct.{Steps}

-- A text for out, what is said on diag beside it, and the status; and the steps that guests have taken under the
-- monitor when it is shown, where there are any.
pub record Shown : Type 0 where
  pub text : Text
  pub lines : Text
  pub status : ℕ
  pub steps : Option Steps

-- a text, and nothing on diag; no board runs in user mode
abbrev pub plain : Text → Shown
plain text = record { text = text; lines = []; status = 0; steps = None }
