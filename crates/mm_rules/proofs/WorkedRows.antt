-- Worked examples, computed on the definitions.
use Rattle.std.proofs.Common.{◌≡◌, ℕ, [], ◌∷◌, Some, None, Ok, Err, refl}
use Rattle.mm_label.specs.Label.{Label}
use Rattle.mm_arena.specs.declared.key.Key.{Key}
use Rattle.mm_rules.specs.declared.refusal.Refusal.TheVariants.{Stale, NoResource, Waiting, AlreadyOwns, NotOwner, Full, LabelsExhausted, NotWaiting, NoVerdict, Carried}
use Rattle.mm_rules.specs.declared.reply.Acquired.TheVariants.{Granted, Waits}
use Rattle.mm_rules.specs.declared.reply.Released.TheVariants.{Free, To}
use Rattle.mm_rules.specs.declared.reply.Transmitted.TheVariants.{Raised}
use Rattle.mm_rules.specs.declared.reply.Detected.TheVariants.{Deadlock, Standing, Clear}
use Rattle.mm_rules.specs.declared.reply.Mode.TheVariants as mode
use Rattle.mm_rules.specs.TableState.{TableState, opening}
use Rattle.mm_rules.proofs.Transcript.{Reply, transcript, begin, acquire, release, finish, transmit, detect, abort, give_up, settle, state, owner, totals, key, acquired, released, done, transmitted, detected, settled, stands, owned, counted}

-- a table of so many processes and resources, with these limits
abbrev table : ℕ → ℕ → ℕ → ℕ → TableState
table p r l g = opening (record { processes = p; resources = r; label_limit = l; generation_limit = g })

-- the key p.g and the label c.p
abbrev k : ℕ → ℕ → Key
k p g = record { process = p; generation = g }

abbrev l : ℕ → ℕ → Label
l c p = record { counter = c; process = p }

abbrev granted : Reply
granted = acquired (Ok Granted)

abbrev waits : Key → Label → Reply
waits holder label = acquired (Ok (Waits holder label))

abbrev active : Label → Label → Reply
active v u = stands (Ok (record { mode = mode.Active; private = v; public = u }))

abbrev waiting : ℕ → Label → Label → Reply
waiting r v u = stands (Ok (record { mode = mode.Waiting r; private = v; public = u }))

abbrev convicted : ℕ → Label → Label → Reply
convicted r v u = stands (Ok (record { mode = mode.Convicted r; private = v; public = u }))

-- Two transactions wait for each other; one is convicted and aborts, and its slot is used again.
crosswise : transcript (table 4 4 100 9)
    (begin ∷ begin ∷ acquire (k 0 1) 0 ∷ acquire (k 1 1) 1 ∷ acquire (k 0 1) 1 ∷ acquire (k 1 1) 0 ∷ detect (k 0 1) ∷ detect (k 1 1)
    ∷ transmit (k 0 1) ∷ detect (k 1 1) ∷ detect (k 1 1) ∷ totals
    ∷ abort (k 1 1) ∷ owner 0 ∷ owner 1 ∷ state (k 0 1) ∷ state (k 1 1) ∷ totals
    ∷ begin ∷ state (k 1 2) ∷ acquire (k 1 2) 0 ∷ [])
    ≡ key (Ok (k 0 1)) ∷ key (Ok (k 1 1)) ∷ granted ∷ granted ∷ waits (k 1 1) (l 1 0) ∷ waits (k 0 1) (l 2 1) ∷ detected (Ok Clear) ∷ detected (Ok Clear)
    ∷ transmitted (Ok (Raised (l 2 1))) ∷ detected (Ok (Deadlock (l 2 1))) ∷ detected (Ok Standing) ∷ counted (record { accepted = 11; verdicts = 1; aborts = 0 })
    ∷ done (Ok tt) ∷ owned (Some (k 0 1)) ∷ owned (Some (k 0 1)) ∷ active (l 1 0) (l 2 1) ∷ stands (Err Stale) ∷ counted (record { accepted = 12; verdicts = 1; aborts = 1 })
    ∷ key (Ok (k 1 2)) ∷ active (l 2 1) (l 2 1) ∷ waits (k 0 1) (l 3 1) ∷ []
crosswise = refl

-- A ring of three: the first sweep raises two labels, the second one, the third none, and one transaction is convicted.
ring_of_three : transcript (table 4 4 100 9)
    (begin ∷ begin ∷ begin ∷ acquire (k 0 1) 0 ∷ acquire (k 1 1) 1 ∷ acquire (k 2 1) 2 ∷ acquire (k 0 1) 1 ∷ acquire (k 1 1) 2 ∷ acquire (k 2 1) 0
    ∷ settle 2 ∷ state (k 0 1) ∷ state (k 1 1) ∷ state (k 2 1) ∷ totals ∷ settle 0 ∷ [])
    ≡ key (Ok (k 0 1)) ∷ key (Ok (k 1 1)) ∷ key (Ok (k 2 1)) ∷ granted ∷ granted ∷ granted ∷ waits (k 1 1) (l 1 0) ∷ waits (k 2 1) (l 1 1) ∷ waits (k 0 1) (l 2 2)
    ∷ settled (Ok (record { raises = 3; verdicts = 1 })) ∷ waiting 1 (l 1 0) (l 2 2) ∷ waiting 2 (l 1 1) (l 2 2) ∷ convicted 0 (l 2 2) (l 2 2)
    ∷ counted (record { accepted = 10; verdicts = 1; aborts = 0 }) ∷ settled (Ok (record { raises = 0; verdicts = 0 })) ∷ []
ring_of_three = refl

-- Four in one queue: the longest waiter owns next, and the others get fresh labels and keep their order.
hand_over_queue : transcript (table 4 1 100 9)
    (begin ∷ begin ∷ begin ∷ begin ∷ acquire (k 0 1) 0 ∷ acquire (k 1 1) 0 ∷ acquire (k 2 1) 0 ∷ acquire (k 3 1) 0
    ∷ release (k 0 1) 0 ∷ state (k 1 1) ∷ state (k 2 1) ∷ state (k 3 1) ∷ release (k 1 1) 0 ∷ state (k 3 1) ∷ release (k 2 1) 0 ∷ release (k 3 1) 0 ∷ owner 0 ∷ [])
    ≡ key (Ok (k 0 1)) ∷ key (Ok (k 1 1)) ∷ key (Ok (k 2 1)) ∷ key (Ok (k 3 1)) ∷ granted ∷ waits (k 0 1) (l 1 1) ∷ waits (k 0 1) (l 1 2) ∷ waits (k 0 1) (l 1 3)
    ∷ released (Ok (To (k 1 1))) ∷ active (l 1 1) (l 1 1) ∷ waiting 0 (l 2 2) (l 2 2) ∷ waiting 0 (l 2 3) (l 2 3) ∷ released (Ok (To (k 2 1))) ∷ waiting 0 (l 3 3) (l 3 3)
    ∷ released (Ok (To (k 3 1))) ∷ released (Ok Free) ∷ owned None ∷ []
hand_over_queue = refl

-- The label limit refuses a block, and no cycle is made.
limit_refuses_block : transcript (table 2 2 1 9)
    (begin ∷ begin ∷ acquire (k 0 1) 0 ∷ acquire (k 1 1) 1 ∷ acquire (k 0 1) 1 ∷ acquire (k 1 1) 0 ∷ state (k 1 1) ∷ [])
    ≡ key (Ok (k 0 1)) ∷ key (Ok (k 1 1)) ∷ granted ∷ granted ∷ waits (k 1 1) (l 1 0) ∷ acquired (Err LabelsExhausted) ∷ active (l 0 1) (l 0 1) ∷ []
limit_refuses_block = refl

-- It refuses a hand-over whole, by release and by finish.
limit_refuses_hand_over : transcript (table 3 1 1 9)
    (begin ∷ begin ∷ begin ∷ acquire (k 0 1) 0 ∷ acquire (k 1 1) 0 ∷ acquire (k 2 1) 0 ∷ release (k 0 1) 0 ∷ finish (k 0 1) ∷ owner 0 ∷ state (k 2 1) ∷ [])
    ≡ key (Ok (k 0 1)) ∷ key (Ok (k 1 1)) ∷ key (Ok (k 2 1)) ∷ granted ∷ waits (k 0 1) (l 1 1) ∷ waits (k 0 1) (l 1 2)
    ∷ released (Err LabelsExhausted) ∷ done (Err LabelsExhausted) ∷ owned (Some (k 0 1)) ∷ waiting 0 (l 1 2) (l 1 2) ∷ []
limit_refuses_hand_over = refl

-- A slot that is freed at the last generation is never given again.
retired_slot : transcript (table 1 1 9 2) (begin ∷ finish (k 0 1) ∷ begin ∷ finish (k 0 2) ∷ begin ∷ [])
    ≡ key (Ok (k 0 1)) ∷ done (Ok tt) ∷ key (Ok (k 0 2)) ∷ done (Ok tt) ∷ key (Err Full) ∷ []
retired_slot = refl

-- Each refusal where it applies, and which comes first where two do.
refusals : transcript (table 2 2 9 9)
    (begin ∷ begin ∷ acquire (k 0 1) 0 ∷ acquire (k 1 1) 1 ∷ acquire (k 0 1) 0 ∷ acquire (k 0 1) 1 ∷ release (k 0 1) 0 ∷ acquire (k 0 1) 7 ∷ acquire (k 0 9) 7
    ∷ acquire (k 5 1) 0 ∷ release (k 1 1) 0 ∷ transmit (k 1 1) ∷ abort (k 0 1) ∷ abort (k 1 1) ∷ finish (k 0 1) ∷ totals ∷ [])
    ≡ key (Ok (k 0 1)) ∷ key (Ok (k 1 1)) ∷ granted ∷ granted ∷ acquired (Err AlreadyOwns) ∷ waits (k 1 1) (l 1 0) ∷ released (Err Waiting) ∷ acquired (Err NoResource) ∷ acquired (Err Stale)
    ∷ acquired (Err Stale) ∷ released (Err NotOwner) ∷ transmitted (Err NotWaiting) ∷ done (Err NoVerdict) ∷ done (Err NoVerdict) ∷ done (Err Waiting)
    ∷ counted (record { accepted = 5; verdicts = 0; aborts = 0 }) ∷ []
refusals = refl

-- A waiter gives up where its two labels are equal, and not where it shows another's or a verdict stands.
give_up_by_labels : transcript (table 4 4 100 9)
    (begin ∷ begin ∷ acquire (k 0 1) 0 ∷ acquire (k 1 1) 1 ∷ acquire (k 0 1) 1 ∷ acquire (k 1 1) 0 ∷ transmit (k 0 1) ∷ give_up (k 0 1) ∷ give_up (k 1 1) ∷ state (k 1 1) ∷ detect (k 0 1) ∷ [])
    ≡ key (Ok (k 0 1)) ∷ key (Ok (k 1 1)) ∷ granted ∷ granted ∷ waits (k 1 1) (l 1 0) ∷ waits (k 0 1) (l 2 1) ∷ transmitted (Ok (Raised (l 2 1)))
    ∷ done (Err Carried) ∷ done (Ok tt) ∷ active (l 2 1) (l 2 1) ∷ detected (Ok Clear) ∷ []
give_up_by_labels = refl
