-- What a hand-over leaves of another transaction.
use Rattle.std.proofs.Common.{◌≡◌, ◌≢◌, ℕ, true, List, inl, inr, sym, ap, subst, ◌∙◌}
use Rattle.std.specs.List.{range_with_len}
use Rattle.mm_arena.specs.declared.key.Key.{Key}
use Rattle.mm_lists.specs.Members.{Among}
use Rattle.mm_names.specs.Names.{name_of}
use Rattle.mm_rules.specs.TableState.{TableState, is_live, owner_of, wait_of}
use Rattle.mm_rules.specs.Laws.{Laws}
use Rattle.mm_settled.specs.Grants.{grant_of, grants}
use Rattle.mm_settled.specs.declared.reply.Grant.{Grant}
use Rattle.mm_settled.proofs.Lemmas.Grants as Grants
use Rattle.mm_manager.specs.Calls.{Passes, IsGranted}
use Rattle.mm_manager.specs.LockState.{LockState, Owns, untold}
use Rattle.mm_manager.proofs.Lemmas.Requests.{one_key}
use Rattle.mm_apart.specs.Apart.{IsLeft}

-- ---- nothing happened

pub same_left : (old new : LockState) (t : Key) → is_live old.table t ≡ true → new.table ≡ old.table → new.names ≡ old.names → IsLeft old t new
same_left old new t live table names =
    let owner : (q : ℕ) → owner_of new.table q ≡ owner_of old.table q = λ q. ap (λ (v : TableState). owner_of v q) table in
    let wait : wait_of new.table t.process ≡ wait_of old.table t.process = ap (λ (v : TableState). wait_of v t.process) table in
    let name : (q : ℕ) → name_of new.names q ≡ name_of old.names q = λ q. ap (λ v. name_of v q) names in
    record {
      live = ap (λ (v : TableState). is_live v t) table ∙ live;
      owns = λ other own. (own.0, name own.0 ∙ own.1, owner own.0 ∙ own.2);
      gains = λ other own. inl (own.0, sym (name own.0) ∙ own.1, sym (owner own.0) ∙ own.2);
      waited = λ other waits. inl (waits.0, name waits.0 ∙ waits.1, wait ∙ waits.2);
      waits = λ other waits. (waits.0, sym (name waits.0) ∙ waits.1, sym wait ∙ waits.2);
    }

pub untold_left : (old new : LockState) (t : Key) → is_live old.table t ≡ true → new ≡ untold old → IsLeft old t new
untold_left old new t live same = same_left old new t live (ap (λ (m : LockState). m.table) same) (ap (λ (m : LockState). m.names) same)

pub as_it_was : (old new : LockState) (t : Key) → is_live old.table t ≡ true → new ≡ old → IsLeft old t new
as_it_was old new t live same = same_left old new t live (ap (λ (m : LockState). m.table) same) (ap (λ (m : LockState). m.names) same)

-- ---- one after the other

pub left_left : (a b c : LockState) (t : Key) → IsLeft a t b → IsLeft b t c → IsLeft a t c
left_left a b c t first second = record {
  live = second.live;
  owns = λ name own. second.owns name (first.owns name own);
  gains = λ name own. elim (second.gains name own) [ inl before ↦ first.gains name before | inr waits ↦ inr (first.waits name waits) ];
  waited = λ name waits. elim (first.waited name waits) [ inl still ↦ second.waited name still | inr own ↦ inr (second.owns name own) ];
  waits = λ name waits. first.waits name (second.waits name waits);
}

-- ---- a hand-over

-- whoever was granted something owns it, so it is the live transaction of its process
granted_key : (s u : TableState) (t : Key) (g : Grant) → Laws u → is_live u t ≡ true → Among g (grants s u) → g.key.process ≡ t.process → g.key ≡ t
granted_key s u t g laws live among at =
    let found = Grants.filter_map_gives (grant_of s u) (range_with_len 0 s.config.resources) g among in
    let is = Grants.granted s u found.0 g found.2 in
    one_key u g.key t (laws.lawful.well_formed.owners found.0 g.key is.1) live at

module _ (old new : LockState) (k t : Key) (Loses : Key → List ℕ → Type 0) (laws : Laws new.table) (live : is_live new.table t ≡ true) (told : new.granted ≡ grants old.table new.table)
    (passes : Passes old k Loses new) (apart : t.process ≢ k.process) (keeps : (name : List ℕ) → ¬ Loses t name) where
  granted_is_own : (h : Key) (name : List ℕ) → h.process ≡ t.process → IsGranted old new h name → Owns new t name
  granted_is_own h name at granted =
      let own = granted_key old.table new.table t granted.0 laws live (subst (λ gs. Among granted.0 gs) told granted.1) (ap (λ (x : Key). x.process) granted.2 ∙ at) in
      let same : h ≡ t = sym granted.2 ∙ own in
      (passes.granted t name (subst (λ x. IsGranted old new x name) same granted)).1 (keeps name)

  pub passes_left : IsLeft old t new
  passes_left = record {
    live = live;
    owns = λ name own. passes.keeps t name own (keeps name);
    gains = λ name own. elim (passes.gains t name own).1 [ inl before ↦ inl before | inr granted ↦ inr (passes.granted t name granted).0 ];
    waited = λ name waits. elim (passes.ended t name apart waits) [ inl still ↦ inl still | inr ended ↦ inr (granted_is_own ended.0 name ended.1 ended.2) ];
    waits = λ name waits. passes.waits t name waits;
  }
