-- Counts, one reply after the other.
use Rattle.std.proofs.Common.{◌≡◌, ◌+◌, ◌-◌, ◌^◌, min, Bool, true, false, List, [], ◌∷◌, ◌++◌, cond, sym, subst, append-nil, append_assoc, arith}
use Rattle.std.specs.Prelude.{count_by}
use Rattle.std.specs.Int.{from_bool}
use Rattle.std.proofs.lemmas.List.Sums.{sum_by_push}
use Rattle.binfarce_addresses.specs.Counts.{AreCountsOf, is_asked, is_unasked, is_unclear, is_yes, AddsUp}
use Rattle.binfarce_addresses.specs.declared.counts.Counts.{Counts}
use Rattle.binfarce_addresses.specs.declared.counts.Reply.{Reply}
use Rattle.binfarce_addresses.specs.declared.counts.Reply.TheVariants.{Unasked, Unclear, Held}

pushed : (test : Reply → Bool) (before : List Reply) (reply : Reply) → count_by test (before ++ reply ∷ []) ≡ count_by test before + cond (test reply) 1 0
pushed test before reply = sum_by_push (λ (x : Reply). cond (test x) 1 0) before reply

-- one number more that isn't asked for
pub one_missing : (old new : Counts) → new.asked ≡ old.asked → new.found ≡ old.found → new.unclear ≡ old.unclear → new.missing ≡ min (old.missing + 1) (2 ^ 64 - 1) → AddsUp old new (Unasked ∷ [])
one_missing old new asked found unclear missing before are = record {
  asked = omega (arith, asked, are.asked, pushed is_asked before Unasked);
  found = omega (arith, found, are.found, pushed is_yes before Unasked);
  unclear = omega (arith, unclear, are.unclear, pushed is_unclear before Unasked);
  missing = omega (arith, missing, are.missing, pushed is_unasked before Unasked);
}

-- one more that no file answers
pub one_unclear : (old new : Counts) → new.asked ≡ min (old.asked + 1) (2 ^ 64 - 1) → new.found ≡ old.found → new.unclear ≡ min (old.unclear + 1) (2 ^ 64 - 1) → new.missing ≡ old.missing → AddsUp old new (Unclear ∷ [])
one_unclear old new asked found unclear missing before are = record {
  asked = omega (arith, asked, are.asked, pushed is_asked before Unclear);
  found = omega (arith, found, are.found, pushed is_yes before Unclear);
  unclear = omega (arith, unclear, are.unclear, pushed is_unclear before Unclear);
  missing = omega (arith, missing, are.missing, pushed is_unasked before Unclear);
}

-- one address more
pub one_asked : (old new : Counts) (held : Bool) → new.asked ≡ min (old.asked + 1) (2 ^ 64 - 1) → new.found ≡ min (old.found + from_bool held) (2 ^ 64 - 1) → new.unclear ≡ old.unclear → new.missing ≡ old.missing → AddsUp old new (Held held ∷ [])
one_asked old new true asked found unclear missing before are = record {
  asked = omega (arith, asked, are.asked, pushed is_asked before (Held true));
  found = omega (arith, found, are.found, pushed is_yes before (Held true));
  unclear = omega (arith, unclear, are.unclear, pushed is_unclear before (Held true));
  missing = omega (arith, missing, are.missing, pushed is_unasked before (Held true));
}
one_asked old new false asked found unclear missing before are = record {
  asked = omega (arith, asked, are.asked, pushed is_asked before (Held false));
  found = omega (arith, found, are.found, pushed is_yes before (Held false));
  unclear = omega (arith, unclear, are.unclear, pushed is_unclear before (Held false));
  missing = omega (arith, missing, are.missing, pushed is_unasked before (Held false));
}

-- none are added
pub adds_none : (counts : Counts) → AddsUp counts counts []
adds_none counts before are = subst (λ (x : List Reply). AreCountsOf x counts) (sym (append-nil before)) are

-- first these answers are counted, and then those
pub adds_both : (old mid new : Counts) (first second : List Reply) → AddsUp old mid first → AddsUp mid new second → AddsUp old new (first ++ second)
adds_both old mid new first second a b before are = subst (λ (x : List Reply). AreCountsOf x new) (append_assoc before first second) (b (before ++ first) (a before are))
