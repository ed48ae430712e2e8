use Rattle.std.proofs.Common.{rules, refl, [], ◌∷◌}
use Rattle.mm_tied.specs.History.{Chain}
use Rattle.mm_tied.proofs.Calls.{in_hand, made}
use Rattle.test_tied.specs.ToyManager.{Asks}
use Rattle.test_tied.specs.declared.manager.Asked.{Asked}
use Rattle.test_tied.specs.declared.story.Hall.{Hall}
use Rattle.test_tied.proofs.session.Session.try_lock.Goals as goal

pub slot_mut-hall-requires : goal.slot_mut-hall-requires
slot_mut-hall-requires g c = (search rules, in_hand (λ (h : Hall). h.manager) c.args.self.now.pass.me.0 c.take.new.pass.me c.take.ensures.found)

pub put-requires-clause-made : goal.put-requires-clause-made
put-requires-clause-made g c =
    let hall = c.slot_mut-hall.result.now in
    let after : Hall = record { manager = c.ask-answer.new.self; visits = c.slot_mut-hall.result.now.visits; idle = hall.idle } in
    let event : Asked = record { at = c.args.self.now.at; name = c.args.name; answer = c.ask-answer.result } in
    let run : Chain Asks hall.manager (event ∷ []) after.manager = (c.ask-answer.new.self, c.ask-answer.ensures, refl) in
    made (λ (h : Hall). h.manager) Asks c.args.self.now.pass.me.0 c.take.new.pass.me hall after (event ∷ []) c.take.ensures.found c.slot_mut-hall.ensures.value run
