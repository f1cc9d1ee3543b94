-- The code's lines of a text are those of its definition.
use Rattle.std.proofs.Common.{◌≡◌, ◌∙◌, ℕ, List, ap, sym, map}
use Rattle.std.specs.List.{flat_map}
use Rattle.std.specs.Prelude.{Option}
use Rattle.mb_report.proofs.FlatMapLemmas.{flat_map-map}
use Rattle.mb_report.specs.Buffered.{Buffers}
use Rattle.mb_report.specs.declared.buffered.Buffered.{Buffered}
use Rattle.mb_report.specs.declared.outcome.Line.{Line}
use Rattle.mb_report.specs.Text.{Shown, line_text}
use Rattle.mb_report.specs.Lines.{line_of}

pub buffers_lines : {a b : Buffered} {o p : Option (List ℕ)} {f g : ℕ} (lines : List Line) {said : List (List ℕ × Shown)}
    → map line_of lines ≡ said → Buffers a b o p f g (flat_map (λ line. line_text (line_of line)) lines)
    → Buffers a b o p f g (flat_map line_text said)
buffers_lines lines same put =
    let text = sym (flat_map-map line_text line_of lines) ∙ ap (flat_map line_text) same in rw text at put
