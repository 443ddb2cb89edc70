-- What the changes of a body leave of it.
use Rattle.std.proofs.Common.{◌≡◌, ◌≢◌, ℕ, true, List, [], ◌∷◌, Option}
use Rattle.std.proofs.Common.{refl, slice_get, slice_set, ap, zero, suc}
use Rattle.base.specs.Live.{has}
use Rattle.label_lattice.specs.Label.{LabelValue}
use Rattle.kernel_rules.specs.State.{listed, slots_of, thread_of, kind_of}
use Rattle.kernel_rules.specs.Changes.{rebyte, requeue, rethread, reslot, relist}
use Rattle.kernel_rules.specs.Changes.{requoted, made_fixed, noted, with_body}
use Rattle.kernel_rules.specs.declared.objects.Body as body
use Rattle.kernel_rules.specs.declared.objects.Body.TheVariants as is
use Rattle.kernel_rules.specs.declared.objects.Mapping.{Mapping}
use Rattle.kernel_rules.specs.declared.objects.Object.{Object}
use Rattle.kernel_rules.specs.declared.objects.Thread as thread
use Rattle.kernel_laws.specs.Alike.{LooksAlike}

pub alike_quota : (more less : ℕ) (x : Object) → LooksAlike x (requoted more less x)
alike_quota more less x =
    record { label = refl; immutable = refl; container = refl; list = refl; slots = refl; space = refl }

pub alike_fixed : (x : Object) → LooksAlike x (made_fixed x)
alike_fixed x =
    record { label = refl; immutable = refl; container = refl; list = refl; slots = refl; space = refl }

pub alike_noted : (bytes : List ℕ) (x : Object) → LooksAlike x (noted bytes x)
alike_noted bytes x =
    record { label = refl; immutable = refl; container = refl; list = refl; slots = refl; space = refl }

pub alike_bytes : (f : List ℕ → List ℕ) (x : Object) → LooksAlike x (with_body (rebyte f) x)
alike_bytes f x = at_body x.body
  where
    at_body : (b : body.Body) → LooksAlike (record x { body = b }) (with_body (rebyte f) (record x { body = b }))
    at_body (is.Container avoid list) =
        record { label = refl; immutable = refl; container = refl; list = refl; slots = refl; space = refl }
    at_body (is.Segment bytes) =
        record { label = refl; immutable = refl; container = refl; list = refl; slots = refl; space = refl }
    at_body (is.AddressSpace slots) =
        record { label = refl; immutable = refl; container = refl; list = refl; slots = refl; space = refl }
    at_body (is.Thread t) =
        record { label = refl; immutable = refl; container = refl; list = refl; slots = refl; space = refl }
    at_body (is.Gate g) =
        record { label = refl; immutable = refl; container = refl; list = refl; slots = refl; space = refl }
    at_body (is.Device packets) =
        record { label = refl; immutable = refl; container = refl; list = refl; slots = refl; space = refl }

pub alike_packets : (f : List (List ℕ) → List (List ℕ)) (x : Object) → LooksAlike x (with_body (requeue f) x)
alike_packets f x = at_body x.body
  where
    at_body : (b : body.Body) → LooksAlike (record x { body = b }) (with_body (requeue f) (record x { body = b }))
    at_body (is.Container avoid list) =
        record { label = refl; immutable = refl; container = refl; list = refl; slots = refl; space = refl }
    at_body (is.Segment bytes) =
        record { label = refl; immutable = refl; container = refl; list = refl; slots = refl; space = refl }
    at_body (is.AddressSpace slots) =
        record { label = refl; immutable = refl; container = refl; list = refl; slots = refl; space = refl }
    at_body (is.Thread t) =
        record { label = refl; immutable = refl; container = refl; list = refl; slots = refl; space = refl }
    at_body (is.Gate g) =
        record { label = refl; immutable = refl; container = refl; list = refl; slots = refl; space = refl }
    at_body (is.Device packets) =
        record { label = refl; immutable = refl; container = refl; list = refl; slots = refl; space = refl }

pub alike_cleared : (c : LabelValue) (x : Object) → LooksAlike x (with_body (rethread (λ r. record r { clearance = c })) x)
alike_cleared c x = at_body x.body
  where
    at_body : (b : body.Body) → LooksAlike (record x { body = b }) (with_body (rethread (λ r. record r { clearance = c })) (record x { body = b }))
    at_body (is.Container avoid list) =
        record { label = refl; immutable = refl; container = refl; list = refl; slots = refl; space = refl }
    at_body (is.Segment bytes) =
        record { label = refl; immutable = refl; container = refl; list = refl; slots = refl; space = refl }
    at_body (is.AddressSpace slots) =
        record { label = refl; immutable = refl; container = refl; list = refl; slots = refl; space = refl }
    at_body (is.Thread t) =
        record { label = refl; immutable = refl; container = refl; list = refl; slots = refl; space = refl }
    at_body (is.Gate g) =
        record { label = refl; immutable = refl; container = refl; list = refl; slots = refl; space = refl }
    at_body (is.Device packets) =
        record { label = refl; immutable = refl; container = refl; list = refl; slots = refl; space = refl }

pub kind-relist : (f : List ℕ → List ℕ) (b : body.Body) → kind_of (relist f b) ≡ kind_of b
kind-relist f (is.Container avoid list) = refl
kind-relist f (is.Segment bytes) = refl
kind-relist f (is.AddressSpace slots) = refl
kind-relist f (is.Thread t) = refl
kind-relist f (is.Gate g) = refl
kind-relist f (is.Device packets) = refl

pub slots-relist : (f : List ℕ → List ℕ) (b : body.Body) → slots_of (relist f b) ≡ slots_of b
slots-relist f (is.Container avoid list) = refl
slots-relist f (is.Segment bytes) = refl
slots-relist f (is.AddressSpace slots) = refl
slots-relist f (is.Thread t) = refl
slots-relist f (is.Gate g) = refl
slots-relist f (is.Device packets) = refl

pub thread-relist : (f : List ℕ → List ℕ) (b : body.Body) → thread_of (relist f b) ≡ thread_of b
thread-relist f (is.Container avoid list) = refl
thread-relist f (is.Segment bytes) = refl
thread-relist f (is.AddressSpace slots) = refl
thread-relist f (is.Thread t) = refl
thread-relist f (is.Gate g) = refl
thread-relist f (is.Device packets) = refl

pub kind-reslot : (f : List (Option Mapping) → List (Option Mapping)) (b : body.Body) → kind_of (reslot f b) ≡ kind_of b
kind-reslot f (is.Container avoid list) = refl
kind-reslot f (is.Segment bytes) = refl
kind-reslot f (is.AddressSpace slots) = refl
kind-reslot f (is.Thread t) = refl
kind-reslot f (is.Gate g) = refl
kind-reslot f (is.Device packets) = refl

pub list-reslot : (f : List (Option Mapping) → List (Option Mapping)) (b : body.Body) → listed (reslot f b) ≡ listed b
list-reslot f (is.Container avoid list) = refl
list-reslot f (is.Segment bytes) = refl
list-reslot f (is.AddressSpace slots) = refl
list-reslot f (is.Thread t) = refl
list-reslot f (is.Gate g) = refl
list-reslot f (is.Device packets) = refl

pub thread-reslot : (f : List (Option Mapping) → List (Option Mapping)) (b : body.Body) → thread_of (reslot f b) ≡ thread_of b
thread-reslot f (is.Container avoid list) = refl
thread-reslot f (is.Segment bytes) = refl
thread-reslot f (is.AddressSpace slots) = refl
thread-reslot f (is.Thread t) = refl
thread-reslot f (is.Gate g) = refl
thread-reslot f (is.Device packets) = refl

pub kind-rethread : (f : thread.Thread → thread.Thread) (b : body.Body) → kind_of (rethread f b) ≡ kind_of b
kind-rethread f (is.Container avoid list) = refl
kind-rethread f (is.Segment bytes) = refl
kind-rethread f (is.AddressSpace slots) = refl
kind-rethread f (is.Thread t) = refl
kind-rethread f (is.Gate g) = refl
kind-rethread f (is.Device packets) = refl

pub list-rethread : (f : thread.Thread → thread.Thread) (b : body.Body) → listed (rethread f b) ≡ listed b
list-rethread f (is.Container avoid list) = refl
list-rethread f (is.Segment bytes) = refl
list-rethread f (is.AddressSpace slots) = refl
list-rethread f (is.Thread t) = refl
list-rethread f (is.Gate g) = refl
list-rethread f (is.Device packets) = refl

pub slots-rethread : (f : thread.Thread → thread.Thread) (b : body.Body) → slots_of (rethread f b) ≡ slots_of b
slots-rethread f (is.Container avoid list) = refl
slots-rethread f (is.Segment bytes) = refl
slots-rethread f (is.AddressSpace slots) = refl
slots-rethread f (is.Thread t) = refl
slots-rethread f (is.Gate g) = refl
slots-rethread f (is.Device packets) = refl

-- lists that agree on an id, in a body
pub has-relist : (f : List ℕ → List ℕ) (o : ℕ) → ((ids : List ℕ) → has (f ids) o ≡ has ids o) → (b : body.Body)
    → has (listed (relist f b)) o ≡ has (listed b) o
has-relist f o same (is.Container avoid list) = same list
has-relist f o same (is.Segment bytes) = refl
has-relist f o same (is.AddressSpace slots) = refl
has-relist f o same (is.Thread t) = refl
has-relist f o same (is.Gate g) = refl
has-relist f o same (is.Device packets) = refl

pub wider-relist : (f : List ℕ → List ℕ) (o : ℕ) → ((ids : List ℕ) → has ids o ≡ true → has (f ids) o ≡ true)
    → (b : body.Body) → has (listed b) o ≡ true → has (listed (relist f b)) o ≡ true
wider-relist f o more (is.Container avoid list) = more list
wider-relist f o more (is.Segment bytes) = λ h. h
wider-relist f o more (is.AddressSpace slots) = λ h. h
wider-relist f o more (is.Thread t) = λ h. h
wider-relist f o more (is.Gate g) = λ h. h
wider-relist f o more (is.Device packets) = λ h. h

pub fewer-relist : (f : List ℕ → List ℕ) (o : ℕ) → ((ids : List ℕ) → has (f ids) o ≡ true → has ids o ≡ true)
    → (b : body.Body) → has (listed (relist f b)) o ≡ true → has (listed b) o ≡ true
fewer-relist f o less (is.Container avoid list) = less list
fewer-relist f o less (is.Segment bytes) = λ h. h
fewer-relist f o less (is.AddressSpace slots) = λ h. h
fewer-relist f o less (is.Thread t) = λ h. h
fewer-relist f o less (is.Gate g) = λ h. h
fewer-relist f o less (is.Device packets) = λ h. h

pub slot_reslot : (f : List (Option Mapping) → List (Option Mapping)) (i : ℕ)
    → ((slots : List (Option Mapping)) → slice_get (f slots) i ≡ slice_get slots i) → (b : body.Body)
    → slice_get (slots_of (reslot f b)) i ≡ slice_get (slots_of b) i
slot_reslot f i same (is.Container avoid list) = refl
slot_reslot f i same (is.Segment bytes) = refl
slot_reslot f i same (is.AddressSpace slots) = same slots.slots
slot_reslot f i same (is.Thread t) = refl
slot_reslot f i same (is.Gate g) = refl
slot_reslot f i same (is.Device packets) = refl

-- a list with one element written, elsewhere
pub slice_get-other : {X : Type 0} (xs : List X) (k i : ℕ) (y : X) → i ≢ k
    → slice_get (slice_set xs k y) i ≡ slice_get xs i
slice_get-other [] k i y other = refl
slice_get-other (x ∷ xs) zero zero y other = absurd (other refl)
slice_get-other (x ∷ xs) zero (suc i) y other = refl
slice_get-other (x ∷ xs) (suc k) zero y other = refl
slice_get-other (x ∷ xs) (suc k) (suc i) y other = slice_get-other xs k i y (λ h. other (ap suc h))
