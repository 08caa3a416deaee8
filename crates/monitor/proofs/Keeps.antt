-- What it means that the code of a function keeps a promise, and the names by which a promise speaks of its arguments.
use seplogic.Ra.Ura.{Ura}
use base.Logic.{emp}
use mir.Syntax.{Callee}
use prog.Model.{Model}
use prog.Wired.{Code, Wired}
use types.Logic.{Logic}
use contract.Monad.{fact}
use contract.Lifetimes.{Lfts}
use contract.Running.{Running}
use denote.Triple.Entry.{Args, Res}
use denote.Triple.Spec.{Meets}
use denote.Triple.Clauses.{Ended, AtExit, closing}

-- a fact about the arguments of a function, its result and its arguments at its end
abbrev pub Fact : Ended → Type 1
Fact f = (κs : Lfts f.signature.lifetimes) → Args f.signature κs → Res f.signature κs → AtExit f κs → Type 0

-- The code requires nothing, and ends with the fact: so does a call of the name wherever that names the code. A law of this form is the
-- function's own theorem, held to the type that is written there: with another promise, or with a precondition, the two types would differ.
-- In such a law a are the arguments, r is the result, and e are the arguments at the end.
abbrev pub Keeps : Type 1 → (f : Ended) → Code → Callee → Fact f → Type 2
Keeps M f code name Q =
    (𝓤 : Ura M) (𝓛 : Logic 𝓤) (𝓜 : Model 𝓤 𝓛.H) (𝓡 : Running 𝓤 𝓛.H 𝓜)
    → Wired 𝓡.env code
    → Meets 𝓛 f.signature (𝓡.run (𝓡.env name))
    (closing 𝓛 f (λ κs a. record { ghost = Unit {0}; requires = λ g. emp 𝓤; ensures = λ g r e. fact 𝓤 (Q κs a r e) }))

-- ---- the arguments of a function by name: the image, what is asked for, the output

abbrev pub image_of : {A B : Type 0} → A × B → A
image_of a = a.0

abbrev pub slot_number_of : {A B C : Type 0} → A × (B × C) → B
slot_number_of a = a.1.0

abbrev pub count_of : {A B C : Type 0} → A × (B × C) → B
count_of a = a.1.0

abbrev pub observer_of : {A B C : Type 0} → A × (B × C) → B
observer_of a = a.1.0

abbrev pub output_of : {A B C D : Type 0} → A × (B × (C × D)) → C
output_of a = a.1.1.0

-- of a post slot, label and value stand between image and output
abbrev pub label_of : {A B C D : Type 0} → A × (B × (C × D)) → C
label_of a = a.1.1.0

abbrev pub value_of : {A B C D E : Type 0} → A × (B × (C × (D × E))) → D
value_of a = a.1.1.1.0

abbrev pub post_output_of : {A B C D E F : Type 0} → A × (B × (C × (D × (E × F)))) → E
post_output_of a = a.1.1.1.1.0

-- of a program the input, of writer and lister the text and the program, of a refusal its number, and of what is told what a call
-- returned stand in the image's place
abbrev pub input_of : {A B : Type 0} → A × B → A
input_of a = a.0

abbrev pub number_of : {A B : Type 0} → A × B → A
number_of a = a.0

abbrev pub call_of : {A B : Type 0} → A × B → A
call_of a = a.0

-- of a check an argument of a call
abbrev pub argument_of : {A B : Type 0} → A × B → A
argument_of a = a.0

-- of an answer that is made the output stands ahead of it
abbrev pub target_of : {A B : Type 0} → A × B → A
target_of a = a.0

abbrev pub answer_of : {A B C : Type 0} → A × (B × C) → B
answer_of a = a.1.0

-- of what is told of bytes that were written: how many, the busy count, and the output's room
abbrev pub size_of : {A B : Type 0} → A × B → A
size_of a = a.0

abbrev pub busy_of : {A B C : Type 0} → A × (B × C) → B
busy_of a = a.1.0

abbrev pub room_of : {A B C D : Type 0} → A × (B × (C × D)) → C
room_of a = a.1.1.0

-- of a call that is asked for nothing the output stands right behind the image
abbrev pub sole_output_of : {A B C : Type 0} → A × (B × C) → B
sole_output_of a = a.1.0
