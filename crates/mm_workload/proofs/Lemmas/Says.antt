-- What bytes say, by the JSON value that they are.
use Rattle.std.proofs.Common.{◌≡◌, ◌∙◌, sym, refl, subst, ℕ, ◌<◌, List, [], ◌∷◌, length, Option, Some, None, Result, Ok, Err, IfOk, IfErr, arith}
use Rattle.serde_json.specs.Data.{Data}
use Rattle.serde_json.specs.Read.{read}
use Rattle.serde_json.proofs.OnLiterals.{serde_json_on_literals}
use Rattle.mm_rules.specs.declared.config.Config.{Config}
use Rattle.mm_workload.specs.Work.{Work}
use Rattle.mm_workload.specs.Json.{Says, SaysConfig, SaysWork, SaysNone}
use Rattle.mm_workload.specs.declared.fault.WorkFault.{WorkFault}
use Rattle.mm_workload.specs.declared.fault.WorkFault.TheVariants.{Memory}

-- no JSON text is empty
read_nothing : read [] ≡ None
unfolding serde_json_on_literals
read_nothing = refl

pub some_bytes : (bytes : List ℕ) (d : Data) → read bytes ≡ Some d → 0 < length bytes
some_bytes [] d is =
    let no : None ≡ Some d = sym read_nothing ∙ is in
    cc
some_bytes (b ∷ bytes) d is = omega arith

-- where the value says no workload, its bytes say none
pub says_none : {W : Type 0} → (bytes : List ℕ) (d : Data) (r : Result W WorkFault) → read bytes ≡ Some d →
    IfErr r (λ e. ¬ (e ≡ Memory) → (w : Work) → ¬ SaysWork d w) → IfErr r (λ e. ¬ (e ≡ Memory) → SaysNone bytes)
says_none bytes d (Ok w) is none = tt
says_none bytes d (Err e) is none = λ other w says.
    let same : says.value.0 ≡ d = cc in
    none other w (subst (λ (d : Data). SaysWork d w) same says.value.2)

-- bytes say one workload at most
one : {X : Type 0} → (o : Option X) (x y : X) → o ≡ Some x → o ≡ Some y → x ≡ y
one o x y a b = cc

same_config : (b c : Config) → b.processes ≡ c.processes → b.resources ≡ c.resources → b.label_limit ≡ c.label_limit →
    b.generation_limit ≡ c.generation_limit → b ≡ c
same_config b c processes resources label_limit generation_limit = λ i. record {
  processes = processes i;
  resources = resources i;
  label_limit = label_limit i;
  generation_limit = generation_limit i;
}

same_work : (v w : Work) → v.config ≡ w.config → v.transmitters ≡ w.transmitters → v.turns ≡ w.turns → v.clients ≡ w.clients → v.further ≡ w.further → v ≡ w
same_work v w config transmitters turns clients further = λ i. record {
  config = config i;
  transmitters = transmitters i;
  turns = turns i;
  clients = clients i;
  further = further i;
}

one_config : (d : Data) (b c : Config) → SaysConfig d b → SaysConfig d c → b ≡ c
one_config d b c x y = same_config b c
    (one _ _ _ x.processes y.processes)
    (one _ _ _ x.resources y.resources)
    (one _ _ _ x.label_limit y.label_limit)
    (one _ _ _ x.generation_limit y.generation_limit)

one_work : (d : Data) (v w : Work) → SaysWork d v → SaysWork d w → v ≡ w
one_work d v w x y = same_work v w
    (one_config d v.config w.config x.config y.config)
    (one _ _ _ x.transmitters y.transmitters)
    (one _ _ _ x.turns y.turns)
    (one _ _ _ x.clients y.clients)
    (x.further ∙ sym y.further)

says_one : (bytes : List ℕ) (v w : Work) → Says bytes v → Says bytes w → v ≡ w
says_one bytes v w x y =
    let same : x.value.0 ≡ y.value.0 = one (read bytes) x.value.0 y.value.0 x.value.1 y.value.1 in
    one_work y.value.0 v w (subst (λ (d : Data). SaysWork d v) same x.value.2) y.value.2

pub says_no_other : {E : Type 0} → (bytes : List ℕ) (r : Result Work E) → IfOk r (λ w. Says bytes w) →
    IfOk r (λ w. (v : Work) → Says bytes v → v ≡ w)
says_no_other bytes (Ok w) says = λ v other. says_one bytes v w other says
says_no_other bytes (Err e) says = tt
