-- Three images, by computation.
use Rattle.std.proofs.Common.{◌≡◌, ℕ, true, false, [], refl, sym, ◌∙◌, ap, arith}
use Rattle.std.specs.Prelude.{slice_index_or}
use Rattle.std.proofs.lemmas.Bool.{true≢false}
use Rattle.mb_model.specs.Keeping.{rule_a, rule_k}
use Rattle.def_machine.specs.Machine.{Outcome}
use Rattle.law_tidy.specs.Deciding.{is_tidy}
use Rattle.law_tidy.specs.Images.{sending_image, flushing_image, stale_image, word_read}
use Rattle.law_tidy.specs.Images.{SendingIsTidy, FlushingIsTidy, StaleIsUntidy, StaleDiffers}
use Rattle.law_tidy.proofs.Told.{tidy-is_told}
use Rattle.law_tidy.proofs.OnImages.{runs_on_images}

sending_told : is_tidy sending_image [] 65536 10 ≡ true
unfolding runs_on_images
sending_told = refl

flushing_told : is_tidy flushing_image [] 65536 8 ≡ true
unfolding runs_on_images
flushing_told = refl

stale_told : is_tidy stale_image [] 65536 8 ≡ false
unfolding runs_on_images
stale_told = refl

stale_board : word_read rule_a stale_image ≡ 0x1111
unfolding runs_on_images
stale_board = refl

stale_guest : word_read rule_k stale_image ≡ 0x2222
unfolding runs_on_images
stale_guest = refl

pub sending-is_tidy : SendingIsTidy
sending-is_tidy = (tidy-is_told sending_image [] 65536 10).0 sending_told

pub flushing-is_tidy : FlushingIsTidy
flushing-is_tidy = (tidy-is_told flushing_image [] 65536 8).0 flushing_told

pub stale-is_untidy : StaleIsUntidy
stale-is_untidy tidy = true≢false (sym ((tidy-is_told stale_image [] 65536 8).1 tidy) ∙ stale_told)

apart : (a b : ℕ) → a ≡ 0x1111 → b ≡ 0x2222 → a ≡ b → ⊥
apart a b old new same = omega arith

pub stale-differs : StaleDiffers
stale-differs = record {
  board = stale_board;
  guest = stale_guest;
  differ = λ h.
      apart (word_read rule_a stale_image) (word_read rule_k stale_image) stale_board stale_guest
      (ap (λ (o : Outcome). slice_index_or o.seen.cpu.regs.d 3 0) h);
}
