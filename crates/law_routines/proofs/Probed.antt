-- Calls of a locked row, in states of an invariant that opens what is probed.
use Rattle.std.specs.Prelude.{◌≡◌, Bool, false, ℕ, Err}
use Rattle.mb_port.specs.Routine.{Call, Probe, Get, Put, Bus, probe, get, put}
use Rattle.mb_port.specs.declared.types.Space.{Space}
use Rattle.mb_port.specs.declared.types.Piece.{Piece}
use Rattle.mb_port.specs.declared.types.Place.{Place}
use Rattle.mb_port.specs.declared.types.Fault.{Fault}
use Rattle.law_routines.specs.Refusal.{Refuses, Fact, Tells, Ends}
use Rattle.law_routines.specs.Probing.{IsOpen, OpensProbed}
use Rattle.law_routines.proofs.Told.{tells_probe, ends_ask}

module _ {S : Type 0} {Same : S → S → Type 0} {P : S → Type 0} {lawful : Call → S → Type 0} {allowed : Call → S → Bool} {bus : Bus S} where
  -- an answered probe names an open place
  pub tells_probe_open : {fact : Fact S Place Fault} → Refuses Same lawful allowed bus → OpensProbed P lawful bus → (space : Space) (piece : Piece)
      → ((s : S) → P s → lawful (Probe space piece) s)
      → ((s u : S) (fault : Fault) → P s → allowed (Probe space piece) s ≡ false → bus (Probe space piece) s ≡ (Err fault, u) → Same s u
      → fact (probe space piece) s fault)
      → Tells Same lawful allowed bus P (probe space piece) fact (λ place s. P s × IsOpen P lawful place × (place.len ≡ piece.len))
  tells_probe_open h opens space piece may refused = tells_probe h space piece (record {
    lawfully = may;
    well = λ s place p yes e. let (free, len) = opens.probed space piece s place p (may s p) e in (opens.call (Probe space piece) s p (may s p), free, len);
    refused = refused;
  })

  pub ends_get_open : Refuses Same lawful allowed bus → OpensProbed P lawful bus → (place : Place) → IsOpen P lawful place
      → Ends lawful allowed bus P (get place) (λ value s. P s)
  ends_get_open h opens place free = ends_ask (Get place) h (λ answer fault never. never) (record {
    lawfully = λ s p. (free s p).0;
    well = λ s p. opens.call (Get place) s p (free s p).0;
  })

  pub ends_put_open : Refuses Same lawful allowed bus → OpensProbed P lawful bus → (place : Place) (value : ℕ) → IsOpen P lawful place
      → Ends lawful allowed bus P (put place value) (λ done s. P s)
  ends_put_open h opens place value free = ends_ask (Put place value) h (λ answer fault never. never) (record {
    lawfully = λ s p. (free s p).1 value;
    well = λ s p. opens.call (Put place value) s p ((free s p).1 value);
  })
