-- What the code's layouts stand for.
use Rattle.mb_asm.specs.declared.layout.Layout.{Layout}
use Rattle.mb_asm.specs.Said.{symbols_said}
use Rattle.mb_asm.specs.Layouts as layouts

abbrev pub layout_said : Layout → layouts.Layout
layout_said layout = record { at = layout.at; symbols = symbols_said layout.symbols }
