-- What a depot holds from call to call.
use Rattle.std.proofs.Common.{◌≡◌, Result, Ok, Err, is_err, true, ap, ◌∙◌}
use Rattle.ss_outside.specs.Depot.{Contents, DepotTold, Discards}
use Rattle.ss_outside.specs.declared.depot.Failed.{Failed}

-- the next change comes to what was there
pub changed : (change : Contents → Contents) (new old was : Contents) → new ≡ change old → old ≡ was → new ≡ change was
changed change new old was step before = step ∙ ap change before

-- after a refusal what is held is as before
pub discards-refused : (old new : DepotTold) (held : Contents) (result : Result (Unit {0}) Failed) →
    is_err result ≡ true → Discards old new held result → new.contents ≡ old.contents
discards-refused old new held (Ok u) is_refused answer = absurd (cc)
discards-refused old new held (Err e) is_refused answer = answer.0.contents
