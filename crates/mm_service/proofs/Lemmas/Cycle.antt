-- A cycle, transaction by transaction.
use Rattle.std.proofs.Common.{◌≡◌, ◌∙◌, ◌++◌, ℕ, suc, Bool, true, false, [], Some, if◌then◌else◌, ap, append-nil}
use Rattle.mm_arena.specs.declared.key.Key.{Key}
use Rattle.mm_arena.specs.Shelf.{key_eq}
use Rattle.mm_manager.specs.LockState.{LockState}
use Rattle.mm_manager.specs.Reads.{wait_at}
use Rattle.mm_manager.specs.declared.reply.Wait.{Wait}
use Rattle.mm_service.specs.Cycle.{pair_text, pairs_by, pairs_text}
use Rattle.mm_service.specs.Reply.{name_at}

module _ (left i : ℕ) (m : LockState) (k h : Key) (w : Wait) (more : left ≡ suc i) (waits : wait_at m.table h.process ≡ Some w) where
  pub pairs_here : (b : Bool) → key_eq w.holder k ≡ b → pairs_text left m k h ≡ pair_text h (name_at m w.number) ++ (if b then [] else pairs_text i m k w.holder)
  pairs_here b is =
      ap (λ n. pairs_text n m k h) more ∙ ap (pairs_by (pairs_text i m k) m k h) waits ∙ ap (λ (x : Bool). pair_text h (name_at m w.number) ++ (if x then [] else pairs_text i m k w.holder)) is

  pub pairs_last : key_eq w.holder k ≡ true → pairs_text left m k h ≡ pair_text h (name_at m w.number)
  pairs_last is = pairs_here true is ∙ append-nil (pair_text h (name_at m w.number))

  pub pairs_more : key_eq w.holder k ≡ false → pairs_text left m k h ≡ pair_text h (name_at m w.number) ++ pairs_text i m k w.holder
  pairs_more is = pairs_here false is
