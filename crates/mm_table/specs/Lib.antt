-- the rules, and the processes that an event changes, passed on, so that callers name this crate alone
pub use Rattle.mm_rules.specs.Graph
pub use Rattle.mm_rules.specs.Refusal
pub use Rattle.mm_rules.specs.TableState
pub use Rattle.mm_rules.specs.Change
pub use Rattle.mm_rules.specs.Event
pub use Rattle.mm_rules.specs.Laws
pub use Rattle.mm_rules.specs.Victims
pub use Rattle.mm_rules.specs.Rest
pub use Rattle.mm_rules.specs.Withdraw
pub use Rattle.mm_settle_lemmas.specs.Touched
pub use Rattle.mm_settle_lemmas.specs.Shown
pub use Rattle.mm_rules.specs.declared.config
pub use Rattle.mm_rules.specs.declared.refusal
pub use Rattle.mm_rules.specs.declared.reply
-- private: how a table is kept; no public clause cites these
pub mod private
