-- The limits that a statement of a checked image keeps: 25 registers, 8 return labels, 25 values a signal, 8 signals pending, 4 held.
use Rattle.std.specs.Prelude.{◌≡◌, refl, Bool, true, false, cond, ◌&&◌, List, [], ◌∷◌, ◌++◌, map, ℕ, zero, suc, ◌+◌, ◌-◌, ◌*◌, ◌/◌, ◌≤◌}
use Rattle.std.specs.Prelude.{◌<◌, eqb, leb, length, get_or, drop}
use Rattle.std.proofs.Common.{ap, ◌∙◌, arith, length-append, length-set, length-drop, leb-true, leb-false}
use Rattle.std.proofs.Math.Option.{Option, none, some}
use Rattle.std.proofs.lemmas.List.{length-map, length-replicate}
use Rattle.rules.specs.Sizes.{register_count, return_count, held_count, pending_count, operand_count, record_size, record_count}
use Rattle.rules.specs.Codes.{returns_full_code, pending_full_code, held_full_code}
use Rattle.rules.specs.Image.{labels, record_at, operands, Row}
use Rattle.rules.specs.Statements.{operands_from, Way, following, branching, transferring, entering, posting, founding, calling, returning}
use Rattle.rules.specs.Statements.{ending, Sources, nothing, carried, pair, usage, way, read_from, reads}
use Rattle.rules.specs.Machine.{Signal, fill}
use Rattle.rules.specs.Effects.{Got, trap, got, then, unless, Cells, read_all, read, Results, compute, store, assigned, Next, on_a, on_b}
use Rattle.rules.specs.Effects.{into_a, call_a, back, Going, Outcome, ends, goes, View, leave, overflow, worked, chosen, perform, outcome}
use Rattle.rules.specs.Steps.{Effect, traps, exits, moves, trap_if, older, signal_to, hold_on, alien, steer}
use Rattle.rules.specs.declared.statement.Operand.{Operand}
use Rattle.rules.specs.declared.statement.Operand.TheVariants.{Number, Register, Word}
use Rattle.rules.specs.declared.statement.Assignment.{Assignment}
use Rattle.rules.specs.declared.statement.Statement.{Statement}
use Rattle.rules.specs.declared.statement.Statement.TheVariants.{Skip, Assign, If, SendDirect, SendBuffered, Call, Return, Transfer}
use Rattle.rules.specs.declared.statement.Statement.TheVariants.{Exit, SendTree}
use Rattle.bytes_fields.specs.Each.{each_append}
use Rattle.lemmas_rules.specs.Logic.{never}
use Rattle.lemmas_rules.specs.Heads.{few-operands}
use Rattle.lemmas_rules.specs.Passed.{Passed}
use Rattle.lemmas_encoding.specs.Sized.{SizedSignal, SizedSignals}
use Rattle.lemmas_invariant.specs.Destinations.{head}

-- ---- how many operands a record has, and how many values are read

pub operands-limit : (image table : List ℕ) → Passed image table → (l : ℕ) → l < labels image → operands (record_at image l) ≤ operand_count
operands-limit image table ok l h = few-operands (head image table ok l h)

pub length-operands : (r : List ℕ) (k n : ℕ) → length (operands_from r k n) ≡ n
unfolding operands_from
length-operands r k zero = refl
length-operands r k (suc n) = ap suc (length-operands r (k + 1) n)

reads-limit : (s : Sources) (given : List Operand) → length given ≤ operand_count → length (read_from s given) ≤ register_count
reads-limit nothing given h = omega arith
reads-limit carried given h = h
reads-limit (pair p q) given h = omega arith

-- of a result, if it is no trap
abbrev Each : {A : Type 0} → (A → Type 0) → Got A → Type 0
Each P (trap r) = Unit {0}
Each P (got a) = P a

-- a list of n values
abbrev Long : ℕ → Got (List ℕ) → Type 0
Long n x = Each (λ (vs : List ℕ). length vs ≡ n) x

long-cons : (n : ℕ) (x : Got ℕ) (y : Got (List ℕ)) → Long n y → Long (suc n) (then x (λ v. then y (λ vs. got (v ∷ vs))))
long-cons n (trap r) y h = tt
long-cons n (got v) (trap r) h = tt
long-cons n (got v) (got vs) h = ap suc h

read-long : (c : Cells) (ps : List Operand) → Long (length ps) (read_all c ps)
unfolding read_all
read-long c [] = refl
read-long c (p ∷ ps) = long-cons (length ps) (read c p) (read_all c ps) (read-long c ps)

-- ---- what a statement leaves

pub length-fill : (vs : List ℕ) → length vs ≤ register_count → length (fill vs) ≡ register_count
length-fill vs h =
    rw (length-append (map some vs), length-map vs some, length-replicate {A = Option ℕ} (register_count - length vs) none) (omega arith)

length-overlaid : (vs : List ℕ) (rs : List (Option ℕ)) → length vs ≤ register_count → length rs ≡ register_count
    → length (map some vs ++ drop (length vs) rs) ≡ register_count
length-overlaid vs rs h k = rw (length-append (map some vs), length-map vs some, length-drop (length vs) rs, k) (omega arith)

length-store : (d : Operand) (v : ℕ) (c : Cells) → length (store d v c).registers ≡ length c.registers
length-store (Number n) v c = refl
length-store (Register r) v c = length-set c.registers r (some v)
length-store (Word w) v c = refl

-- beside n signals, of which there may be `most`
abbrev pub SentSized : ℕ → ℕ → Option (List ℕ) → Type 0
SentSized most n none = Unit {0}
SentSized most n (some vs) = (length vs ≤ register_count) × (n < most)

abbrev DepthSized : ℕ → Next → Type 0
DepthSized depth on_a = Unit {0}
DepthSized depth on_b = Unit {0}
DepthSized depth into_a = Unit {0}
DepthSized depth call_a = depth < return_count
DepthSized depth back = Unit {0}

abbrev pub OutcomeSized : View → Got Outcome → Type 0
OutcomeSized v (trap r) = Unit {0}
OutcomeSized v (got ends) = Unit {0}
OutcomeSized v (got (goes g)) =
    (length g.cells.registers ≡ register_count) × DepthSized v.depth g.next × SentSized pending_count v.pending g.sent
    × SentSized held_count v.held g.held

then-sized : {A : Type 0} (v : View) (P : A → Type 0) (o : Got A) (f : A → Got Outcome) → Each P o
    → ((a : A) → P a → OutcomeSized v (f a))
    → OutcomeSized v (then o f)
then-sized v P (trap r) f h k = tt
then-sized v P (got a) f h k = k a h

-- the cells that a statement works out have as many registers
abbrev SameRegisters : Cells → Cells → Type 0
SameRegisters c d = length d.registers ≡ length c.registers

compute-sized : (a : Assignment) (c : Cells) (g : Got Results) → Each (SameRegisters c) (then g (λ x. got (assigned a x c)))
compute-sized a c (trap r) = tt
compute-sized a c (got x) = length-store a.second x.second _ ∙ length-store a.first x.first c

worked-sized : (s : Statement) (vs : List ℕ) (c : Cells) → Each (SameRegisters c) (worked s vs c)
worked-sized Skip vs c = refl
worked-sized (Assign a) vs c = compute-sized a c (compute a.operation (get_or vs 0 0) (get_or vs 1 0))
worked-sized (If i) vs c = refl
worked-sized SendDirect vs c = refl
worked-sized SendBuffered vs c = refl
worked-sized Call vs c = refl
worked-sized Return vs c = refl
worked-sized Transfer vs c = refl
worked-sized Exit vs c = refl
worked-sized SendTree vs c = refl

-- where nothing overflows there is room for what a way adds
abbrev RoomFor : View → Way → Type 0
RoomFor v following = Unit {0}
RoomFor v branching = Unit {0}
RoomFor v transferring = Unit {0}
RoomFor v entering = Unit {0}
RoomFor v posting = v.pending < pending_count
RoomFor v founding = v.held < held_count
RoomFor v calling = v.depth < return_count
RoomFor v returning = Unit {0}
RoomFor v ending = Unit {0}

not_full : (n m r : ℕ) → cond (leb n m) (some r) none ≡ none → m < n
not_full n m r h = case (leb n m) refl h
  where
    case : (b : Bool) → leb n m ≡ b → cond b (some r) none ≡ none → m < n
    case true e k = never (cc)
    case false e k = leb-false n m e

room_for : (v : View) (s : Statement) → overflow v s ≡ none → RoomFor v (way s)
room_for v Skip h = tt
room_for v (Assign a) h = tt
room_for v (If c) h = tt
room_for v SendDirect h = tt
room_for v SendBuffered h = not_full pending_count v.pending pending_full_code h
room_for v Call h = not_full return_count v.depth returns_full_code h
room_for v Return h = tt
room_for v Transfer h = tt
room_for v Exit h = tt
room_for v SendTree h = not_full held_count v.held held_full_code h

leave-sized : (v : View) (w : Way) (c : Bool) (vs : List ℕ) (d : Cells) → length d.registers ≡ register_count
    → length vs ≤ register_count → RoomFor v w
    → OutcomeSized v (got (leave w c vs d))
leave-sized v following c vs d h k r = (h, tt, tt, tt)
leave-sized v branching true vs d h k r = (h, tt, tt, tt)
leave-sized v branching false vs d h k r = (h, tt, tt, tt)
leave-sized v transferring c vs d h k r = (length-overlaid vs d.registers k h, tt, tt, tt)
leave-sized v entering c vs d h k r = (length-fill vs k, tt, tt, tt)
leave-sized v posting c vs d h k r = (h, tt, (k, r), tt)
leave-sized v founding c vs d h k r = (h, tt, tt, (k, r))
leave-sized v calling c vs d h k r = (length-fill vs k, r, tt, tt)
leave-sized v returning c vs d h k r = (length-fill vs k, tt, tt, tt)
leave-sized v ending c vs d h k r = tt

perform-sized : (v : View) (s : Statement) (vs : List ℕ) → length v.cells.registers ≡ register_count → length vs ≤ register_count
    → OutcomeSized v (perform v s vs)
unfolding perform
perform-sized v s vs h k = case (overflow v s) refl
  where
    case : (o : Option ℕ) → overflow v s ≡ o
        → OutcomeSized v (unless o (then (worked s vs v.cells) (λ c. got (leave (way s) (chosen s vs) vs c))))
    case none e =
        then-sized v (SameRegisters v.cells) (worked s vs v.cells) _ (worked-sized s vs v.cells)
        (λ c q. leave-sized v (way s) (chosen s vs) vs c (q ∙ h) k (room_for v s e))
    case (some r) e = tt

pub outcome-sized : (v : View) (s : Statement) (given : List Operand) → length v.cells.registers ≡ register_count
    → length given ≤ operand_count
    → OutcomeSized v (outcome v s given)
unfolding outcome
outcome-sized v s given h k =
    let few : length (reads s given) ≤ register_count = reads-limit (usage s).sources given k in
    then-sized v (λ (vs : List ℕ). length vs ≡ length (reads s given)) (read_all v.cells (reads s given))
    (λ vs. perform v s vs)
    (read-long v.cells (reads s given)) (λ vs l. perform-sized v s vs h (rw l few))

-- ---- and the job that it leaves

abbrev pub SignalSized : ℕ → ℕ → Option Signal → Type 0
SignalSized most n none = Unit {0}
SignalSized most n (some g) = SizedSignal g × (n < most)

abbrev pub EffectSized : ℕ → Effect → Type 0
EffectSized pending (traps r) = Unit {0}
EffectSized pending exits = Unit {0}
EffectSized pending (moves j words g want) =
    (length j.registers ≡ register_count) × (length j.returns ≤ return_count) × SizedSignals held_count j.held
    × SignalSized pending_count pending g

pub sent-sized : (most n a : ℕ) (o : Option (List ℕ)) → SentSized most n o → SignalSized most n (signal_to a o)
sent-sized most n a none h = tt
sent-sized most n a (some vs) h = h

-- a signal is added where there is room
pub one_more : (most : ℕ) (gs : List Signal) (g : Signal) → SizedSignals most gs → SignalSized most (length gs) (some g)
    → SizedSignals most (gs ++ g ∷ [])
one_more most gs g h k = record {
  count = rw (length-append gs (g ∷ [])) (omega arith);
  each = each_append SizedSignal gs (g ∷ []) h.each (k.0, tt);
}

pub hold-sized : (gs : List Signal) (o : Option Signal) → SizedSignals held_count gs → SignalSized held_count (length gs) o
    → SizedSignals held_count (hold_on gs o)
hold-sized gs none h k = h
hold-sized gs (some g) h k = one_more held_count gs g h k

length-older : (r : ℕ) (rs : List ℕ) → length (older r rs) ≡ length rs
length-older r [] = refl
length-older r (x ∷ rs) = ap suc (length-older x rs)

module _ (pending : ℕ) where
  trap-sized : (c : Bool) (r : ℕ) (e : Effect) → EffectSized pending e → EffectSized pending (trap_if c r e)
  trap-sized true r e h = tt
  trap-sized false r e h = h

  module _ (block : ℕ → ℕ) (row : ℕ → Row) (t a b : ℕ) (gs : List Signal) (g : Going)
      (k : length g.cells.registers ≡ register_count) (held : SizedSignals held_count (hold_on gs (signal_to a g.held)))
      (sent : SignalSized pending_count pending (signal_to a g.sent)) where
    back-sized : (rs : List ℕ) → length rs ≤ return_count → EffectSized pending (steer block row t a b gs g back rs)
    back-sized [] h = tt
    back-sized (r ∷ rs) h = (k, rw (length-older r rs) (omega arith), held, sent)

    pub steer-sized : (n : Next) (rs : List ℕ) → DepthSized (length rs) n → length rs ≤ return_count
        → EffectSized pending (steer block row t a b gs g n rs)
    steer-sized on_a rs n h = (k, h, held, sent)
    steer-sized on_b rs n h = (k, h, held, sent)
    steer-sized into_a rs n h = trap-sized (alien (row (block a)) t) 5 _ (k, h, held, sent)
    steer-sized call_a rs n h = trap-sized (alien (row (block a)) t) 5 _ (k, rw (length-append rs (b ∷ [])) (omega arith), held, sent)
    steer-sized back rs n h = back-sized rs h

-- labels are below 512, so that no label is the one that says idle
pub labels-limit : (image : List ℕ) → labels image ≤ record_count
unfolding labels
labels-limit image = case (eqb (length image) (record_size * (length image / record_size))) (leb (length image / record_size) record_count)
    refl
  where
    case : (a b : Bool) → leb (length image / record_size) record_count ≡ b → cond (a && b) (length image / record_size) 0 ≤ record_count
    case true true e = leb-true _ record_count e
    case true false e = omega arith
    case false b e = omega arith
