-- The methods that paths take, and their names.
use Rattle.std.specs.Prelude.{ℕ, List, [], ◌∷◌, Option, codes, find, bytes_eq}
use Rattle.rd_messages.specs.declared.method.Method.{Method}
use Rattle.rd_messages.specs.declared.method.Method.TheVariants.{Get, Post, Put, Delete}
use Rattle.rd_messages.specs.declared.method.Methods.{Methods}
use Rattle.rd_messages.specs.declared.method.Methods.TheVariants as methods

-- the methods, as a reply names them
abbrev pub allow_text : Methods → List ℕ
allow_text methods.Get = codes "GET"
allow_text methods.Post = codes "POST"
allow_text methods.Put = codes "PUT"
allow_text methods.PutOrDelete = codes "PUT, DELETE"

-- the methods, one by one
abbrev pub each_of : Methods → List Method
each_of methods.Get = Get ∷ []
each_of methods.Post = Post ∷ []
each_of methods.Put = Put ∷ []
each_of methods.PutOrDelete = Put ∷ Delete ∷ []

-- the name of a method
abbrev pub name_of : Method → List ℕ
name_of Get = codes "GET"
name_of Post = codes "POST"
name_of Put = codes "PUT"
name_of Delete = codes "DELETE"

-- which of the methods has this name, byte for byte
abbrev pub method_named : Methods → List ℕ → Option Method
method_named methods name = find (λ method. bytes_eq (name_of method) name) (each_of methods)
