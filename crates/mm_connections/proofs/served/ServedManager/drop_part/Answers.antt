use Rattle.std.proofs.Common.{◌≡◌, ◌∙◌, ◌-◌, ◌+◌, ◌≤◌, ℕ, suc, ap, take, sym, subst, refl, ◌++◌, Some, arith}
use Rattle.mm_tagged_lists.specs.TaggedLists.{list_at}
use Rattle.mm_rules.specs.TableState.{owned_count}
use Rattle.mm_manager.specs.LockState.{LockState}
use Rattle.mm_manager.specs.Made.{Aborted}
use Rattle.mm_connections.specs.Begun.{aside_list}
use Rattle.mm_connections.specs.Counts.{after_end}
use Rattle.mm_connections.specs.Hub.{Hub}
use Rattle.mm_connections.specs.Text.{Drops, DropsAll, names_at, told_text}
use Rattle.mm_connections.specs.private.Served.{hub_of}
use Rattle.mm_service.proofs.Lemmas.Config.{aborts_config}
use Rattle.mm_connections.proofs.Lemmas.Drops.{DropsOn, drops_end, drops_more, drops_none, drops_stop, names_of}
use Rattle.mm_connections.proofs.Lemmas.Lines.{writes_told}
use Rattle.mm_connections.proofs.served.ServedManager.drop_part.Goals as goal

pub drop-preserved : goal.drop-preserved
drop-preserved g c =
    let inv = c.drop.invariant in
    let n = c.args.connection in
    let key = c.in-Some.key in
    let taken = c.in-Some.ensures.taken in
    let start : Hub = hub_of c.args.self.now in
    let old : Hub = hub_of c.drop.self in
    let kept : Hub = hub_of c.take_fitting.new.self in
    let mid : Hub = record { manager = c.abort-answer.new.self; begun = kept.begun; counts = c.count_end.new.self; options = kept.options } in
    let one = told_text (Some n) mid in
    let same : kept.manager ≡ old.manager = ap (λ (h : Hub). h.manager) taken.0 in
    let names : c.owned_len-left.result ≡ names_at old key.process =
    c.owned_len-left.ensures ∙ ap (λ (m : LockState). owned_count m.table key) same ∙ sym (names_of old key.process key.generation (aside_list n) taken.2) in
    let fits : names_at old key.process ≤ c.drop.left = subst (λ m. m ≤ c.drop.left) (sym (names_of old key.process key.generation (aside_list n) taken.2)) taken.3 in
    let counts : mid.counts ≡ after_end c.abort-answer.result old.counts n = c.count_end.ensures ∙ ap (λ (h : Hub). after_end c.abort-answer.result h.counts n) taken.0 in
    let aborted : Aborted kept.manager key c.abort-answer.result mid.manager = record { aborts = c.abort-answer.ensures.aborts; totals = c.abort-answer.ensures.totals } in
    let dropped : Drops n key.process old one mid = record {
      generation = key.generation;
      was = taken.2;
      answer = c.abort-answer.result;
      did = subst (λ (m : LockState). Aborted m key c.abort-answer.result mid.manager) same aborted;
      lawful = c.keeps_laws-in-drop.ensures;
      rest = λ i. record { manager = mid.manager; begun = (taken.0 i).begun; counts = counts i; options = (taken.0 i).options };
      text = refl;
    } in
    let more : 256 - c.drop.counter ≡ suc (256 - (c.drop.counter + 1)) = omega (arith, c.drop-test.true) in
    let drops = drops_more n key.process c.drop.left (256 - (c.drop.counter + 1)) (256 - c.drop.counter) start old mid inv.told one more inv.matched taken.1 fits dropped inv.drops in
    let written =
    writes_told _ _ _ c.args.output.now.items inv.told inv.lost c.drop.output.items one c.write_told_after-written.new.output.items c.drop.written c.write_told_after-written.result inv.writes inv.kept
    c.write_told_after-written.ensures.told in
    record {
      options = ap (λ (h : Hub). h.options) taken.0 ∙ inv.options;
      lists = c.in-Some.ensures.lists ∙ inv.lists;
      spots = c.in-Some.ensures.spots ∙ inv.spots;
      matched = c.keeps_laws-in-drop-2.ensures;
      config = aborts_config kept.manager mid.manager key c.abort-answer.result c.abort-answer.ensures.aborts ∙ ap (λ (m : LockState). m.table.config) same ∙ inv.config;
      told = inv.told ++ one;
      lost = written.0;
      drops = subst (λ (m : ℕ). DropsOn n (c.drop.left - m) (256 - (c.drop.counter + 1)) start (inv.told ++ one) mid) (sym names) drops;
      writes = written.1;
      kept = written.2;
      fault = c.write_told_after-written.ensures.fault;
    }

pub returns-in_default-clause-drops : goal.returns-in_default-clause-drops
returns-in_default-clause-drops g c =
    let inv = c.drop.invariant in
    let taken = c.in_default.ensures.taken in
    let n = c.args.connection in
    let start : Hub = hub_of c.args.self.now in
    let last : Hub = hub_of c.drop.self in
    let left = c.drop.left in
    let count = 256 - c.drop.counter in
    let all = drops_end n left count start last inv.told (drops_stop n left count last (list_at last.begun (aside_list n)) taken.1) inv.drops in (
      inv.told,
      inv.lost,
      subst (λ (h : Hub). DropsAll n 1024 (take 256 (list_at start.begun (aside_list n))) start inv.told h) (sym taken.0) all,
      inv.writes,
      inv.kept,
    )

pub returns-clause-drops : goal.returns-clause-drops
returns-clause-drops g c =
    let inv = c.drop.invariant in
    let n = c.args.connection in
    let last : Hub = hub_of c.drop.self in
    let list = list_at last.begun (aside_list n) in
    let over : 256 - c.drop.counter ≡ 0 = omega (arith, c.drop-test.false) in
    let none = drops_none n c.drop.left (256 - c.drop.counter) last list (ap (λ left. take left list) over) in
    (inv.told, inv.lost, drops_end n c.drop.left (256 - c.drop.counter) (hub_of c.args.self.now) last inv.told none inv.drops, inv.writes, inv.kept)
